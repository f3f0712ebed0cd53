-- The share book's words: a place and a class are exact, that is, sound words are exactly those of a well-formed place or class.
use Prim.Native.Nat.{ℕ, zero, suc, ◌*◌, ◌≤◌}
use native.Mathlib.Omega.{arith}
use mathlib.Core.Path.{◌≡◌, refl, ap, sym}
use mathlib.Core.Bool.{true, ◌&&◌}
use mathlib.Core.List.{List, [], ◌∷◌, ◌++◌}
use lib.ListN.{length, get_or, drop, length-append, length-drop, get_or-replicate}
use lib.Seq.{drop_at}
use lib.Dec.{eqb, leb}
use borrow.Author.Tests.{eq-eqb, ne_eqb, le-leb, leb-true, eqb-true}
use Rattle.model.specs.declared.Class.{Class}
use Rattle.model.specs.declared.Class.TheVariants.{Feeders, Peers, Own}
use Rattle.model.specs.declared.Deliverer.{Deliverer}
use Rattle.model.specs.declared.Deliverer.TheVariants.{Feeder, Peer, Relay, Restored}
use Rattle.model.specs.declared.Shares.{Shares}
use Rattle.runs.specs.Form.{Exact}
use Rattle.runs.specs.Chunks.{flat}
use Rattle.runs.specs.Combine.{both, up_to, seen_as, Marks}
use Rattle.runs.proofs.Cases.{by_test, each_true, no}
use Rattle.runs.proofs.Chunks.{length_flat}
use Rattle.runs.proofs.Exact.{both_exact, up_exact, such_exact, led_exact, seen_exact}
use Rattle.model.specs.Numbers.{top32}
use Rattle.model.specs.Widths.{place_width}
use Rattle.model.specs.Class.{class_number, class_of, kind_of, same_class}
use Rattle.model.specs.Book.{Pair, Place, total, entries}
use Rattle.model.specs.BookWords.{most_entries, pair_words, read_pairs, pairs_sound, number_word, read_who, read_mark, kind_sound, encode_place, read_place}
use Rattle.model.specs.BookWords.{place_sound, PlaceOk, place_form, used_place, places_rule, places_form, expired_form, totals_words, held_of, of_held, class_form}

-- ---- pairs in words: as many as are read, read back as they were written, and nothing after them is touched
pub length_read : (n : ℕ) (ws : List ℕ) → length (read_pairs n ws) ≡ n
unfolding read_pairs
length_read zero ws = refl
length_read (suc n) ws = ap suc (length_read n (drop 2 ws))

pub length_pairs : (qs : List Pair) → length (flat pair_words qs) ≡ 2 * length qs
length_pairs qs = let e = length_flat pair_words 2 (λ q. refl) qs in omega arith

pub read_flat : (qs : List Pair) (rest : List ℕ) → read_pairs (length qs) (flat pair_words qs ++ rest) ≡ qs
unfolding flat read_pairs
read_flat [] rest = refl
read_flat (q ∷ qs) rest = ap (λ (l : List Pair). q ∷ l) (read_flat qs rest)

pub flat_read : (n : ℕ) (ws : List ℕ) → 2 * n ≤ length ws → flat pair_words (read_pairs n ws) ++ drop (2 * n) ws ≡ ws
unfolding flat read_pairs
flat_read zero ws h = refl
flat_read (suc n) [] h = absurd (omega arith)
flat_read (suc n) (a ∷ []) h = absurd (omega arith)
flat_read (suc n) (a ∷ b ∷ ws) h =
    let e : 2 * suc n ≡ suc (suc (2 * n)) = omega arith in
    rw e (ap (λ (l : List ℕ). a ∷ b ∷ l) (flat_read n ws (omega arith)))

-- ---- a place's deliverer
pub same_class_is : (d c : Class) → same_class d c ≡ true → d ≡ c
same_class_is Feeders Feeders e = refl
same_class_is Feeders Peers e = no (cc)
same_class_is Feeders Own e = no (cc)
same_class_is Peers Feeders e = no (cc)
same_class_is Peers Peers e = refl
same_class_is Peers Own e = no (cc)
same_class_is Own Feeders e = no (cc)
same_class_is Own Peers e = no (cc)
same_class_is Own Own e = refl

pub same_class_self : (c : Class) → same_class c c ≡ true
same_class_self Feeders = refl
same_class_self Peers = refl
same_class_self Own = refl

-- what two words that passed say of the deliverer read from them
record Named (c : Class) (kind number : ℕ) (who : Deliverer) (mark : ℕ) : Type 0 where
  class : same_class (class_of who) c ≡ true
  same_kind : kind_of who ≡ kind
  same_number : number_word who mark ≡ number

own_named : (c : Class) (number : ℕ) → Named c (class_number c) number (read_who c (class_number c) number) (read_mark c (class_number c) number)
unfolding class_of kind_of class_number
own_named Feeders number = record { class = refl; same_kind = refl; same_number = refl }
own_named Peers number = record { class = refl; same_kind = refl; same_number = refl }
own_named Own number = record { class = refl; same_kind = refl; same_number = refl }

restored_named : (c : Class) (number : ℕ) → Named c 3 number (Restored c) number
unfolding class_of kind_of
restored_named c number = record { class = same_class_self c; same_kind = refl; same_number = refl }

named : (c : Class) (kind number : ℕ) → kind_sound c kind ≡ true → Named c kind number (read_who c kind number) (read_mark c kind number)
named c kind number t =
    by_test (eqb kind 3)
    (λ e. let k = eqb-true kind 3 e in rw k (restored_named c number))
    (λ e. let k = eqb-true kind (class_number c) (rw e at t) in rw k (own_named c number))

-- a deliverer's words pass in its class, and are read back
own_back : (who : Deliverer) (mark : ℕ)
    → (kind_sound (class_of who) (kind_of who) ≡ true) × (read_who (class_of who) (kind_of who) (number_word who mark) ≡ who)
unfolding class_of kind_of class_number
own_back (Feeder id) mark = (refl, refl)
own_back (Peer id) mark = (refl, refl)
own_back Relay mark = (refl, refl)
own_back (Restored c) mark = (refl, refl)

pub named_back : (c : Class) (who : Deliverer) (mark : ℕ) → same_class (class_of who) c ≡ true
    → (kind_sound c (kind_of who) ≡ true) × (read_who c (kind_of who) (number_word who mark) ≡ who)
named_back c who mark e = rw (← same_class_is (class_of who) c e) (own_back who mark)

-- ---- a place
place_back : (c : Class) (E kind number sum n : ℕ) (cells : List ℕ) → length cells ≡ 2 * E
    → place_sound c E (kind ∷ number ∷ sum ∷ n ∷ cells) ≡ true
    → PlaceOk c E (read_place c (kind ∷ number ∷ sum ∷ n ∷ cells))
    × (◌≡◌ {A = List ℕ} (kind ∷ number ∷ sum ∷ n ∷ cells) (encode_place (read_place c (kind ∷ number ∷ sum ∷ n ∷ cells))))
unfolding place_sound
place_back c E kind number sum n cells long t =
    let qs = read_pairs n cells in
    let p = each_true (kind_sound c kind) ((leb 1 n && leb n E) ∷ pairs_sound 0 qs ∷ eqb (total qs) sum ∷ leb sum most_entries ∷ []) t in
    let q = each_true (leb 1 n) (leb n E ∷ []) p.1.0 in
    let some = leb-true 1 n q.0 in
    let few = leb-true n E q.1 in
    let sums = eqb-true (total qs) sum p.1.1.1.0 in
    let most = leb-true sum most_entries p.1.1.1.1 in
    let w = named c kind number p.0 in
    let l = length_read n cells in (
      record {
        class = w.class;
        mark = rw (w.same_kind, w.same_number);
        least = omega arith;
        cells = rw (l, length-drop) (omega arith);
        pairs = p.1.1.0;
        few = omega arith;
      },
      rw (w.same_kind, w.same_number, sums, l, flat_read n cells (omega arith)),
    )

place_forth : (c : Class) (E : ℕ) (p : Place) → PlaceOk c E p
    → (place_sound c E (encode_place p) ≡ true) × (read_place c (encode_place p) ≡ p)
unfolding place_sound
place_forth c E p ok =
    let w = named_back c p.who p.mark ok.class in
    let r = read_flat p.pairs p.past in
    let d = drop_at (flat pair_words p.pairs) p.past (2 * length p.pairs) (length_pairs p.pairs) in
    let few = le-leb (length p.pairs) E (let k = ok.cells in omega arith) in
    let m = sym ok.mark in (
      rw (w.0, le-leb _ _ ok.least, few, r, ok.pairs, eq-eqb (entries p) (entries p) refl, le-leb _ _ ok.few),
      λ i. record { who = w.1 i; mark = m i; pairs = r i; past = d i },
    )

pub place_exact : (c : Class) (E : ℕ) → Exact (place_form c E)
place_exact c E = record {
  width = λ p ok. rw (length-append, length_pairs) (omega (arith, ok.cells));
  back = back;
  forth = place_forth c E;
}
  where
    back : (ws : List ℕ) → length ws ≡ place_width E → place_sound c E ws ≡ true → PlaceOk c E (read_place c ws) × (ws ≡ encode_place (read_place c ws))
    back [] long t = absurd (omega arith)
    back (a ∷ []) long t = absurd (omega arith)
    back (a ∷ b ∷ []) long t = absurd (omega arith)
    back (a ∷ b ∷ s ∷ []) long t = absurd (omega arith)
    back (a ∷ b ∷ s ∷ n ∷ cells) long t = place_back c E a b s n cells (omega arith) t

-- ---- a class
pub place_marks : (c : Class) (E : ℕ) → Marks (place_form c E) used_place
unfolding used_place
place_marks c E = record {
  on = λ p ok. rw (ne_eqb (length p.pairs) 0 (λ z. let k = ok.least in omega arith));
  off = rw (get_or-replicate {A = ℕ} (place_width E) 3 0 0 (omega arith));
}

pub places_exact : (b : Shares) (c : Class) → Exact (places_form b c)
places_exact b c =
    let place = place_form c b.pairs in
    such_exact (up_to place used_place b.places) places_rule
    (up_exact place used_place (place_exact c b.pairs) (place_marks c b.pairs) b.places)

expired_exact : Exact expired_form
expired_exact = record {
  width = λ t ok. refl;
  back = back;
  forth = λ t ok. (le-leb t top32 ok, refl);
}
  where
    back : (ws : List ℕ) → length ws ≡ 1 → leb (get_or ws 0 0) top32 ≡ true → (get_or ws 0 0 ≤ top32) × (ws ≡ get_or ws 0 0 ∷ [])
    back [] long t = absurd (omega arith)
    back (a ∷ []) long t = (leb-true a top32 t, refl)
    back (a ∷ b ∷ ws) long t = absurd (omega arith)

-- what follows the three totals: `expired` and the places
pub held_exact : (b : Shares) (c : Class) → Exact (seen_as held_of of_held (both expired_form (places_form b c)))
held_exact b c =
    seen_exact held_of of_held (both expired_form (places_form b c)) (λ x. refl) (λ h. refl)
    (both_exact expired_form (places_form b c) expired_exact (places_exact b c))

pub class_exact : (b : Shares) (c : Class) → Exact (class_form b c)
class_exact b c =
    led_exact 3 (totals_words b) (seen_as held_of of_held (both expired_form (places_form b c))) (λ h ok. refl) (held_exact b c)
