use Rattle.std.proofs.Common.{sym, ◌∙◌, ap, get_or, Some}
use Rattle.std.proofs.lemmas.List.{take_all}
use Rattle.decimals.proofs.Reading.{number_none, number_some, read_short}
use Rattle.decimals.specs.Texts.{with_digit, with_digits}
use Rattle.decimals.proofs.read.Goals as goal

pub returns-then-is_empty : goal.returns-then-is_empty
returns-then-is_empty c = number_none c.args.text.now (sym c.is_empty.ensures ∙ c.if-is_empty.true)

pub returns-in_err-n : goal.returns-in_err-n
returns-in_err-n c = let l = c.loop-b in
    let text = c.args.text.now in
    let stop = ap (λ n. with_digit n (get_or text l.b-index 0)) (sym l.invariant) ∙ sym c.joined.ensures ∙ c.in_err-n.was in
    c.from_residual.ensures ∙ read_short text l.b-index (sym c.is_empty.ensures ∙ c.if-is_empty.false) c.loop-b-test.true stop

pub returns : goal.returns
returns c = let l = c.loop-b in
    let text = c.args.text.now in
    l.invariant ∙ ap (with_digits (Some 0)) (take_all l.b-index text c.loop-b-test.false) ∙ number_some text (sym c.is_empty.ensures ∙ c.if-is_empty.false)
