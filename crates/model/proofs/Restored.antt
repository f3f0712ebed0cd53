-- Restoring a register's dump into an untouched register with the same settings and enough room: all of it is held, as it was.
use mathlib.Core.Path.{◌≡◌, refl, ap, ap₂, sym, ◌∙◌, subst}
use mathlib.Core.Bool.{true, false, or-false}
use mathlib.Core.List.{List, [], ◌∷◌, ◌++◌}
use Prim.Native.Nat.{ℕ, zero, suc, ◌+◌, ◌*◌, ◌%◌, ◌≤◌, ◌<◌}
use native.Mathlib.Omega.{arith}
use lib.Dec.{eqb}
use lib.ListN.{length, get_or, set, replicate, length-set}
use lib.Seq.{get_or-set_same, get_or-set_other, set-get_or, set-set}
use borrow.Author.Tests.{eqb-false, le-leb, eq-eqb, ne_eqb}
use Rattle.model.specs.declared.Class.{Class}
use Rattle.model.specs.declared.Deliverer.TheVariants.{Restored}
use Rattle.model.specs.declared.Draw.TheVariants.{Granted}
use Rattle.model.specs.declared.Room.TheVariants.{At}
use Rattle.model.specs.declared.Shares.{Shares}
use Rattle.model.specs.declared.Usable.{Usable}
use Rattle.runs.specs.Combine.{EachOk}
use Rattle.runs.proofs.Cases.{by_test}
use Rattle.model.specs.Settings.{power_of_two}
use Rattle.model.specs.Generation.{Generation, empty, count, held, among, as_read, slots_for}
use Rattle.model.specs.Book.{Place, Book, second_of, together, enter, draw_test, with_places}
use Rattle.model.specs.Register.{Ring, Register, generation_at, with_generation}
use Rattle.model.specs.Judge.{collides, make_room}
use Rattle.model.specs.Dump.{Dumped, Holding, hold_all, fingerprints, Restoring, settled, restore_class}
use Rattle.model.specs.GenerationWords.{GenerationOk}
use Rattle.model.specs.RoundTrip.{seconds_in, RoomFor, SameGeneration}
use Rattle.model.proofs.Growth.{ok_ways, exponent}
use Rattle.model.proofs.DumpRead.{as_dumped, dumped_of, prints_length}
use Rattle.model.proofs.Holding.{room_grants, room_after, with_class, holding, inserted_one, holds_one}
use Rattle.model.proofs.Filling.{Positive, one_more, prints_positive, prints_among, Power, Filling, empty_filling, slots_fit, filled_one, one_bucket, one_newest}

-- ---- one generation: its fingerprints are inserted and its entries entered, one after the other
abbrev pub inserted_all : Dumped → List ℕ → Generation → Generation
inserted_all d [] g = g
inserted_all d (fp ∷ fps) g = inserted_all d fps (inserted_one d fp g)

abbrev pub entered_all : Shares → Class → ℕ → List ℕ → List Place → List Place
entered_all b c s [] ps = ps
entered_all b c s (fp ∷ fps) ps = entered_all b c s fps (enter b (Restored c) s ps)

-- the position is free or this bucket's, and there are slots
finds_room : (most S : ℕ) (d : Dumped) (all rest : List ℕ) (fp : ℕ) (ring : Ring) → Power most → most ≤ S → 0 < fp
    → Filling most d all (fp ∷ rest) (generation_at ring d.bucket) → make_room S d.bucket (as_read fp) ring ≡ At (d.bucket % length ring)
unfolding make_room collides
finds_room most S d all rest fp ring p l h f =
    let g = generation_at ring d.bucket in
    let fit = le-leb (slots_for (among (as_read fp) g.slots) g.slots) S (let k = slots_fit most d all rest fp g p h f in omega arith) in
    by_test (eqb (held g) 0) (λ e. by_test (eqb g.bucket d.bucket) (λ q. simp (e, q, fit)) (λ q. simp (e, q, fit)))
    (λ e. let z = eqb-false (held g) 0 e in
    let q = eq-eqb g.bucket d.bucket (f.bucket (omega (arith, z))) in simp (e, q, fit))

-- a generation that is put in at a bucket's position is there, and is replaced by the next
at_with : (ring : Ring) (b : ℕ) (g : Generation) → b % length ring < length ring → generation_at (with_generation ring b g) b ≡ g
at_with ring b g low = rw length-set (get_or-set_same ring (b % length ring) g empty low)

with_with : (ring : Ring) (b : ℕ) (g h : Generation) → with_generation (with_generation ring b g) b h ≡ with_generation ring b h
with_with ring b g h = rw length-set (set-set ring (b % length ring) g h)

module _ (u : Usable) (b : Shares) (c : Class) (reg : Register) (k : Book) (is_open : k.closed ≡ false) where
  -- room, where anything is to come
  abbrev IfRoom : List ℕ → List Place → Type 0
  IfRoom seconds ps = 0 < length seconds → RoomFor b (together k.limits c) c seconds ps

  module _ (most : ℕ) (power : Power most) (fits : most ≤ u.slots) (d : Dumped) (all : List ℕ) (more : List ℕ) where
    abbrev second : ℕ
    second = second_of d.bucket u.bucket

    record AllHeld (fps : List ℕ) (ring : Ring) (ps : List Place) (n : ℕ) : Type 0 where
      holds : hold_all u b c d fps (holding c reg k ring ps n)
          ≡ holding c reg k (with_generation ring d.bucket (inserted_all d fps (generation_at ring d.bucket))) (entered_all b c second fps ps) (n + length fps)
      filled : Filling most d all [] (inserted_all d fps (generation_at ring d.bucket))
      room : IfRoom more (entered_all b c second fps ps)

    all_held : (fps : List ℕ) (ring : Ring) (ps : List Place) (n : ℕ) → d.bucket % length ring < length ring → Positive fps
        → Filling most d all fps (generation_at ring d.bucket) → IfRoom (replicate (length fps) second ++ more) ps → AllHeld fps ring ps n
    unfolding hold_all
    all_held [] ring ps n low pos f room =
        let e : n + 0 ≡ n = omega arith in
        record { holds = rw (set-get_or ring (d.bucket % length ring) empty, e); filled = f; room = room }
    all_held (fp ∷ fps) ring ps n low (one_more h pos) f room =
        let g = generation_at ring d.bucket in
        let ring₁ = with_generation ring d.bucket (inserted_one d fp g) in
        let ps₁ = enter b (Restored c) second ps in
        let now : RoomFor b (together k.limits c) c (second ∷ (replicate (length fps) second ++ more)) ps = room (omega arith) in
        let grant : draw_test b k.limits k.closed (Restored c) second ps ≡ Granted =
        rw is_open (room_grants b k.limits c second (replicate (length fps) second ++ more) ps now) in
        let one = holds_one c u b reg k d fp ring ps n grant (finds_room most u.slots d all fps fp ring power fits h f) in
        let at : generation_at ring₁ d.bucket ≡ inserted_one d fp g = at_with ring d.bucket (inserted_one d fp g) low in
        let then = all_held fps ring₁ ps₁ (suc n) (rw length-set low) pos (subst (Filling most d all fps) (sym at) (filled_one most d all fps fp g power h f))
        (λ z. room_after b k.limits c second (replicate (length fps) second ++ more) ps now) in
        let again : with_generation ring₁ d.bucket (inserted_all d fps (generation_at ring₁ d.bucket))
        ≡ with_generation ring d.bucket (inserted_all d fps (inserted_one d fp g)) =
        rw at (with_with ring d.bucket (inserted_one d fp g) (inserted_all d fps (inserted_one d fp g))) in
        let count : suc n + length fps ≡ n + suc (length fps) = omega arith in
        record {
          holds = ap (hold_all u b c d fps) one ∙ then.holds
              ∙ ap₂ (λ (r : Ring) (m : ℕ). holding c reg k r (entered_all b c second fps ps₁) m) again count;
          filled = subst (λ (x : Generation). Filling most d all [] (inserted_all d fps x)) at then.filled;
          room = then.room;
        }

-- ---- one generation, whole: it is the same again
stamped : (d : Dumped) (fps : List ℕ) (g : Generation) → g.bucket ≡ d.bucket → g.newest ≡ d.newest
    → ((inserted_all d fps g).bucket ≡ d.bucket) × ((inserted_all d fps g).newest ≡ d.newest)
stamped d [] g e f = (e, f)
stamped d (fp ∷ fps) g e f = stamped d fps (inserted_one d fp g) (one_bucket d fp g) (one_newest d fp g ∙ (omega arith))

all_stamped : (d : Dumped) (fps : List ℕ) (g : Generation) → 0 < length fps → g.newest ≤ d.newest
    → ((inserted_all d fps g).bucket ≡ d.bucket) × ((inserted_all d fps g).newest ≡ d.newest)
all_stamped d [] g h l = absurd (omega arith)
all_stamped d (fp ∷ fps) g h l = stamped d fps (inserted_one d fp g) (one_bucket d fp g) (one_newest d fp g ∙ (omega arith))

-- what a held generation is dumped as, and what is made of it
abbrev again : Generation → Generation
again g = inserted_all (as_dumped g) (fingerprints g.slots) empty

again_same : (most : ℕ) (g : Generation) → 1 ≤ held g → Filling most (as_dumped g) (fingerprints g.slots) [] (again g) → SameGeneration g (again g)
unfolding among
again_same most g h f =
    let l = prints_length g.slots in
    let s = all_stamped (as_dumped g) (fingerprints g.slots) empty (omega arith) (omega arith) in
    record {
      prints = λ y p. sym (or-false (among y (again g).slots)) ∙ f.prints y p ∙ prints_among y g.slots p;
      newest = s.1;
      bucket = λ z. s.0;
    }

-- an empty generation is the same as any that holds nothing
empty_same : (g : Generation) → g.slots ≡ [] → g.newest ≡ 0 → SameGeneration g empty
unfolding count
empty_same g e z = record {
  prints = λ y p. rw e;
  newest = sym z;
  bucket = λ h. absurd (let n : held g ≡ 0 = rw e refl in omega arith);
}

empty_held : (g : Generation) → g.slots ≡ [] → eqb (held g) 0 ≡ true
unfolding count
empty_held g e = rw e

empty_seconds : (u : Usable) (g : Generation) (gs : Ring) → g.slots ≡ [] → seconds_in u (g ∷ gs) ≡ seconds_in u gs
unfolding seconds_in count
empty_seconds u g gs e = rw e

-- ---- a class: the generations gs of the dump, whose positions start at i; nothing is held there yet
module _ (u : Usable) (b : Shares) (c : Class) (reg : Register) (k : Book) (is_open : k.closed ≡ false) where
  abbrev pub restoring : Ring → List Place → Restoring
  restoring ring ps = record { register = with_class c reg k ring; book = with_places c ps k; whole = true }

  pub record ClassBack (gs : Ring) (i : ℕ) (ring : Ring) (ps : List Place) : Type 0 where
    pub ring₁ : Ring
    pub places₁ : List Place
    pub is : restore_class u b c (dumped_of gs) (restoring ring ps) ≡ restoring ring₁ places₁
    pub long : length ring₁ ≡ length ring
    pub before : (j : ℕ) → j < i → get_or ring₁ j empty ≡ get_or ring j empty
    pub same : (j : ℕ) → SameGeneration (get_or gs j empty) (get_or ring₁ (i + j) empty)

  abbrev pub Room_for : Ring → List Place → Type 0
  Room_for gs ps = 0 < length (seconds_in u gs) → RoomFor b (together k.limits c) c (seconds_in u gs) ps

  -- one held generation
  record OneBack (g : Generation) (gs : Ring) (i : ℕ) (ring : Ring) (ps : List Place) : Type 0 where
    pub places₁ : List Place
    is : (ds : List Dumped) → restore_class u b c (as_dumped g ∷ ds) (restoring ring ps) ≡ restore_class u b c ds (restoring (set ring i (again g)) places₁)
    same : SameGeneration g (again g)
    room : Room_for gs places₁

  one_back : (i : ℕ) (g : Generation) (gs : Ring) (ring : Ring) (ps : List Place) → g.bucket % length ring ≡ i → i < length ring
      → power_of_two (length g.slots) ≡ true → 1 ≤ held g → 4 * held g ≤ 3 * length g.slots → length g.slots ≤ u.slots
      → get_or ring i empty ≡ empty
      → (0 < length (replicate (held g) (second_of g.bucket u.bucket) ++ seconds_in u gs)
      → RoomFor b (together k.limits c) c (replicate (held g) (second_of g.bucket u.bucket) ++ seconds_in u gs) ps)
      → OneBack g gs i ring ps
  unfolding restore_class settled
  one_back i g gs ring ps position low pow some_held few fit free room =
      let d = as_dumped g in
      let fps = fingerprints g.slots in
      let most = length g.slots in
      let x = exponent most pow in
      let power : Power most = record { exponent = x.0; is = x.2 } in
      let l = prints_length g.slots in
      let at : generation_at ring g.bucket ≡ empty = rw position free in
      let positive : 1 ≤ most = omega arith in
      let start = empty_filling most d fps power (omega arith) positive in
      let all = all_held u b c reg k is_open most power fit d fps (seconds_in u gs) fps ring ps 0 (rw position low) (prints_positive g.slots)
      (subst (Filling most d fps fps) (sym at) start) (subst (λ (n : ℕ). 0 < length (replicate n (second_of g.bucket u.bucket) ++ seconds_in u gs)
      → RoomFor b (together k.limits c) c (replicate n (second_of g.bucket u.bucket) ++ seconds_in u gs) ps) (sym l) room) in
      let places = entered_all b c (second_of g.bucket u.bucket) fps ps in
      let held_is : hold_all u b c d fps (holding c reg k ring ps 0) ≡ holding c reg k (set ring i (again g)) places (0 + length fps) =
      all.holds ∙ ap (λ (r : Ring). holding c reg k r places (0 + length fps)) (rw (at, position)) in
      record {
        places₁ = places;
        is = λ ds. ap (λ (h : Holding). restore_class u b c ds (settled u c d true h)) held_is;
        same = again_same most g some_held (subst (λ (e : Generation). Filling most d fps [] (inserted_all d fps e)) at all.filled);
        room = all.room;
      }

  -- the first position is done, then the others
  same_from : (g : Generation) (gs to : Ring) (i : ℕ) → SameGeneration g (get_or to i empty)
      → ((j : ℕ) → SameGeneration (get_or gs j empty) (get_or to (suc i + j) empty)) → (j : ℕ) → SameGeneration (get_or (g ∷ gs) j empty) (get_or to (i + j) empty)
  same_from g gs to i first rest zero = let e : i + 0 ≡ i = omega arith in rw e first
  same_from g gs to i first rest (suc j) = let e : i + suc j ≡ suc i + j = omega arith in rw e (rest j)

  then_back : (g : Generation) (gs : Ring) (i : ℕ) (ring : Ring) (ps : List Place) (ring₀ : Ring) (ps₀ : List Place)
      → restore_class u b c (dumped_of (g ∷ gs)) (restoring ring ps) ≡ restore_class u b c (dumped_of gs) (restoring ring₀ ps₀)
      → length ring₀ ≡ length ring → ((j : ℕ) → j < i → get_or ring₀ j empty ≡ get_or ring j empty) → SameGeneration g (get_or ring₀ i empty)
      → ClassBack gs (suc i) ring₀ ps₀ → ClassBack (g ∷ gs) i ring ps
  then_back g gs i ring ps ring₀ ps₀ e long before first rest = record {
    ring₁ = rest.ring₁;
    places₁ = rest.places₁;
    is = e ∙ rest.is;
    long = rest.long ∙ long;
    before = λ j h. rest.before j (omega arith) ∙ before j h;
    same = same_from g gs rest.ring₁ i (subst (SameGeneration g) (sym (rest.before i (omega arith))) first) rest.same;
  }

  pub class_back : (gs : Ring) (i n : ℕ) (ring : Ring) (ps : List Place) → EachOk (GenerationOk u.slots n) i gs → length ring ≡ n → i + length gs ≡ n
      → ((j : ℕ) → i ≤ j → get_or ring j empty ≡ empty) → Room_for gs ps → ClassBack gs i ring ps
  unfolding EachOk restore_class dumped_of seconds_in
  class_back [] i n ring ps ok long all free room = record {
    ring₁ = ring;
    places₁ = ps;
    is = refl;
    long = refl;
    before = λ j h. refl;
    same = λ j. rw (free (i + j) (omega arith)) (empty_same empty refl refl);
  }
  class_back (g ∷ gs) i n ring ps ok long all free room =
      ok_ways u.slots n i g ok.0
      (λ none_there zero_newest.
      let e : eqb (held g) 0 ≡ true = empty_held g none_there in
      then_back g gs i ring ps ring ps (simp e) refl (λ j h. refl) (rw (free i (omega arith)) (empty_same g none_there zero_newest))
      (class_back gs (suc i) n ring ps ok.1 long (omega arith) (λ j h. free j (omega arith))
      (subst (λ (ss : List ℕ). 0 < length ss → RoomFor b (together k.limits c) c ss ps) (empty_seconds u g gs none_there) room)))
      (λ pow some_held few position reached.
      let e : eqb (held g) 0 ≡ false = ne_eqb (held g) 0 (λ z. omega arith) in
      let low : i < length ring = omega arith in
      let one = one_back i g gs ring ps (rw long position) low pow some_held few ok.0.fits (free i (omega arith)) room in
      then_back g gs i ring ps (set ring i (again g)) one.places₁ (simp e (one.is (dumped_of gs))) (length-set ring i (again g))
      (λ j h. get_or-set_other ring i j (again g) empty (λ z. omega arith)) (rw (get_or-set_same ring i (again g) empty low) one.same)
      (class_back gs (suc i) n (set ring i (again g)) one.places₁ ok.1 (length-set ring i (again g) ∙ long) (omega arith)
      (λ j h. get_or-set_other ring i j (again g) empty (λ z. omega arith) ∙ free j (omega arith)) one.room))
