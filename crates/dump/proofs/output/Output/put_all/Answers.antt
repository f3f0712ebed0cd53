use mathlib.Core.Path.{refl, ◌∙◌}
use lib.ListN.{get_or, drop}
use mathlib.Core.List.{[], ◌∷◌}
use native.Mathlib.Omega.{arith}
use Prim.Native.Nat.{◌+◌}
use Rattle.runs.proofs.Over.{writes_start}
use Rattle.dump.proofs.Writing.{first_fits, first_on, none_left, words_split, words_end}
use Rattle.dump.proofs.output.Output.put_all.Goals as goal

pub loop-word-init : goal.loop-word-init
loop-word-init g c = record { same = refl; writes = writes_start c.requires }

pub put-requires : goal.put-requires
put-requires g c =
    let ws = c.args.words.now in
    let i = c.loop-word.word-index in
    first_fits (get_or ws i 0 ∷ []) (drop (i + 1) ws) (words_split ws i (omega arith)) c.loop-word.invariant.writes

pub loop-word-preserved : goal.loop-word-preserved
loop-word-preserved g c =
    let ws = c.args.words.now in
    let i = c.loop-word.word-index in
    record {
      same = c.put.ensures.same ∙ c.loop-word.invariant.same;
      writes = first_on (get_or ws i 0 ∷ []) (drop (i + 1) ws) (words_split ws i (omega arith)) c.loop-word.invariant.writes g.met.E.Element.encoded_long c.put.ensures.puts;
    }

pub returns-clause-puts : goal.returns-clause-puts
returns-clause-puts g c = none_left (words_end c.args.words.now c.loop-word.word-index (omega arith)) c.loop-word.invariant.writes
