-- `next` meets its contract.
use Rattle.activity.proofs.StepLaws.{marks-next}
use Rattle.activity.proofs.next.Goals as goal

pub returns : goal.returns
returns c = marks-next c.args.e c.args.m
