-- The position of a bucket in a ring's words: what is seen there is seen of the ring, and what is put there is put into it.
use Prim.Native.Nat.{ℕ, ◌+◌, ◌-◌, ◌*◌, ◌%◌, ◌<◌, ◌≤◌}
use mathlib.Core.Path.{◌≡◌, refl, ap, ◌∙◌}
use mathlib.Core.Bool.{true}
use mathlib.Core.List.{List}
use lib.ListN.{length, get_or, set}
use borrow.Rule.Slice.PartMut.{mid_of, put_mid}
use Rattle.runs.specs.Form.{Exact}
use Rattle.runs.specs.Combine.{form_at, test_all}
use Rattle.runs.specs.Turns.{Reads, Turns}
use Rattle.runs.proofs.Exact.{many_exact, sound_is}
use Rattle.runs.proofs.Parts.{Part, place_part}
use Rattle.runs.proofs.Walk.{inside}
use Rattle.runs.proofs.Turns.{lies_at, part_reads, part_turns, reads_as, turns_as}
use Rattle.model.specs.Widths.{generation_width}
use Rattle.model.specs.Generation.{Generation, empty}
use Rattle.model.specs.GenerationWords.{encode_generation, GenerationOk, generation_place}
use Rattle.model.specs.Register.{Ring, generation_at, with_generation}
use Rattle.model.proofs.GenerationWords.{generation_exact}
use Rattle.model.proofs.RingsKept.{Placed}
use Rattle.generation.specs.Words.{Bounded}
use Rattle.generation.proofs.Looking.{bounded}
use Rattle.ring.specs.Ring.{places, RingReads, RingTurns, RingWords, StartsAt}

module _ (S n : ℕ) where
  pub ring_exact : Exact (places S n)
  ring_exact = many_exact (generation_place S n) (generation_exact S n) n

  -- sound words are those of a ring
  pub sound_words : (ws : List ℕ) → length ws ≡ n * generation_width S → test_all (generation_place S n) 0 n ws ≡ true → RingWords S n ws
  sound_words ws long t = record { long = long; is = sound_is (places S n) ring_exact ws long t }

  pub starts_at : (i : ℕ) → i < n → StartsAt S n i (i * generation_width S)
  starts_at i h = record { start = refl; within = inside n i (generation_width S) h }

  -- ---- position i, lent as `&words[a..e]`
  module _ (i : ℕ) (h : i < n) (a e : ℕ) (at : StartsAt S n i a) (he : e ≡ a + generation_width S) where
    here : Part (places S n) (form_at (generation_place S n) i) (i * generation_width S) (λ ring. get_or ring i empty) (λ ring g. set ring i g)
    here = place_part (generation_place S n) (generation_exact S n) n i empty h

    pub place_is : (ws : List ℕ) (ring : Ring) → (places S n).Ok ring → ws ≡ (places S n).enc ring
        → GenerationOk S n i (get_or ring i empty) × (mid_of a (e - a) ws ≡ encode_generation S (get_or ring i empty))
    place_is ws ring ok is = (here.lies.fine ring ok, lies_at here.lies a e at.start he ring ok ws is)

    pub place_bounded : S ≤ 1_024 → (ws : List ℕ) → RingWords S n ws → Bounded (mid_of a (e - a) ws)
    place_bounded small ws w =
        let v = w.is in
        let p = place_is ws v.value v.ok v.words in
        bounded S n i (get_or v.value i empty) p.0 small (mid_of a (e - a) ws) p.1

    pub place_reads : {R : Type 0} {out : Generation → R} {ws : List ℕ} {r : R}
        → Reads (encode_generation S) (GenerationOk S n i) out (mid_of a (e - a) ws) r → RingReads S n (λ ring. out (get_or ring i empty)) ws r
    place_reads t = part_reads here.lies a e at.start he t

    -- ---- and where it is a bucket's position
    module _ (b : ℕ) (p : i ≡ b % n) where
      pub bucket_is : (ring : Ring) → (places S n).Ok ring → get_or ring i empty ≡ generation_at ring b
      bucket_is ring ok = rw (p, ok.0)

      pub bucket_reads : {R : Type 0} {out : Generation → R} {ws : List ℕ} {r : R}
          → Reads (encode_generation S) (GenerationOk S n i) out (mid_of a (e - a) ws) r → RingReads S n (λ ring. out (generation_at ring b)) ws r
      bucket_reads {out = out} t = reads_as (place_reads t) (λ ring ok is q. q ∙ ap out (bucket_is ring ok))

      pub bucket_turns : {R : Type 0} {f : Generation → Generation} {out : Generation → R} {ws last : List ℕ} {r : R}
          → Turns (encode_generation S) (GenerationOk S n i) f out (mid_of a (e - a) ws) last r
          → RingTurns S n (λ ring. with_generation ring b (f (generation_at ring b))) (λ ring. out (generation_at ring b)) ws (put_mid a (e - a) ws last) r
      bucket_turns {out = out} t =
          turns_as (part_turns here a e at.start he t)
          (λ ring ok is q. (ap (places S n).enc (rw (p, ok.0)), q ∙ ap out (bucket_is ring ok)))

  -- ---- a well-formed ring of these words, as the model's laws have it
  pub placed : (ring : Ring) → (places S n).Ok ring → Placed S n ring
  placed ring ok = record { long = ok.0; each = ok.1 }

  pub of_placed : (ring : Ring) → Placed S n ring → (places S n).Ok ring
  of_placed ring ok = (ok.long, ok.each)

  -- what a function leaves are the words of a ring again
  pub turned : {R : Type 0} {f : Ring → Ring} {out : Ring → R} {ws last : List ℕ} {r : R} → RingTurns S n f out ws last r → (w : RingWords S n ws)
      → (places S n).Ok (f w.is.value) → RingWords S n last
  turned t w ok =
      let v = w.is in
      let d = (t.does v.value v.ok v.words).0 in
      record {
        long = ap length d ∙ ring_exact.width _ ok;
        is = record { value = _; ok = ok; words = d };
      }
