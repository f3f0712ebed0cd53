use Rattle.taking.proofs.Explains.{judge_stands, judge_passes}
use Rattle.taking.proofs.explaining.explain_seen.Goals as goal

pub returns-in-Accepted : goal.returns-in-Accepted
returns-in-Accepted c = search judge_passes

pub returns-in_default : goal.returns-in_default
returns-in_default c = search judge_stands
