use Rattle.std.proofs.Common.{◌≡◌, ◌∙◌, rules, not, eqb}
use Rattle.std.specs.List.{count_by}
use Rattle.generation.proofs.Reaching.{counted}
use Rattle.generation.proofs.crowded.held_in.Goals as goal

pub returns : goal.returns
returns c =
    let s = c.args.slots.now in
    let h : c.count.result ≡ count_by (λ x. not (eqb x 0)) s = search rules in
    h ∙ counted s
