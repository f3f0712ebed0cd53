-- The share book stays well formed: through a draw that is granted, a draw given back, and expire. Assumes nothing.
use Prim.Native.Nat.{ℕ, ◌≤◌}
use native.Mathlib.Omega.{arith}
use mathlib.Core.Path.{◌≡◌, refl, subst}
use mathlib.Core.Bool.{true}
use Rattle.model.specs.declared.Class.{Class}
use Rattle.model.specs.declared.Class.TheVariants.{Feeders, Peers, Own}
use Rattle.model.specs.declared.Deliverer.{Deliverer}
use Rattle.model.specs.declared.Draw.{Draw}
use Rattle.model.specs.declared.Draw.TheVariants.{Granted, Closed, OwnShare, ClassLimit, EqualPart, TwiceLimit, Places, Pairs}
use Rattle.model.specs.declared.Shares.{Shares}
use Rattle.model.specs.declared.Limits.{Limits}
use Rattle.runs.specs.Combine.{EachOk}
use Rattle.runs.proofs.Cases.{no}
use Rattle.model.specs.Numbers.{top32, cap32, ceil}
use Rattle.model.specs.Settings.{limits_fit, shares_fit}
use Rattle.model.specs.Class.{class_of, pick, swap}
use Rattle.model.specs.Book.{Held, Book, entries_in, second_of, granted, draw_says, drawn, undrawn, enter, give_back, expire, opened_book, closed_book, with_limits}
use Rattle.model.specs.BookWords.{distinct, class_form}
use Rattle.model.proofs.Bounds.{shares_bounds}
use Rattle.model.proofs.Choice.{swap_cases}
use Rattle.model.proofs.Places.{placed, enter_ok, give_back_ok, expire_ok}

pub record BookOk (b : Shares) (k : Book) : Type 0 where
  pub limits : limits_fit k.limits ≡ true
  pub classes : (c : Class) → (class_form b c).Ok (pick c k.classes)

-- ---- numbers
pub second_short : (bucket width : ℕ) → second_of bucket width ≤ top32
unfolding second_of cap32
second_short bucket width = omega arith

pub short : (n : ℕ) → cap32 n ≤ top32
unfolding cap32
short n = omega arith

pub pairs_some : (b : Shares) → shares_fit b ≡ true → 1 ≤ b.pairs
pairs_some b t = omega (arith, (shares_bounds b t).some_pairs)

pub granted_is : (d : Draw) → granted d ≡ true → d ≡ Granted
granted_is Granted e = refl
granted_is Closed e = no (cc)
granted_is OwnShare e = no (cc)
granted_is ClassLimit e = no (cc)
granted_is EqualPart e = no (cc)
granted_is TwiceLimit e = no (cc)
granted_is Places e = no (cc)
granted_is Pairs e = no (cc)

module _ (b : Shares) where
  -- one class's places are replaced
  placed_ok : (c : Class) (h : Held) (k : Book) → (class_form b c).Ok h → BookOk b k → (d : Class) → (class_form b d).Ok (pick d (swap c h k.classes))
  placed_ok c h k new ok d =
      swap_cases (λ (x : Held). (class_form b d).Ok x) c d h k.classes (λ e. subst (λ (x : Class). (class_form b x).Ok h) e new) (ok.classes d)

  pub drawn_ok : (who : Deliverer) (s : ℕ) (k : Book) → 1 ≤ b.pairs → s ≤ top32 → granted (draw_says b who s k) ≡ true → BookOk b k
      → BookOk b (drawn b who s k)
  unfolding drawn draw_says
  drawn_ok who s k some low g ok =
      let c = class_of who in
      let h = pick c k.classes in
      record {
        limits = ok.limits;
        classes = placed_ok c (placed (enter b who s h.places) h) k
            (enter_ok b c h (ok.classes c) k.limits k.closed who s some ok.limits refl low (granted_is _ g)) ok;
      }

  pub undrawn_ok : (who : Deliverer) (s : ℕ) (k : Book) → BookOk b k → BookOk b (undrawn who s k)
  unfolding undrawn
  undrawn_ok who s k ok =
      let c = class_of who in
      let h = pick c k.classes in
      record { limits = ok.limits; classes = placed_ok c (placed (give_back who s h.places) h) k (give_back_ok b c h (ok.classes c) who s) ok }

  pub expired_ok : (ms : ℕ) (k : Book) → BookOk b k → BookOk b (expire ms k)
  unfolding expire
  expired_ok ms k ok = record { limits = ok.limits; classes = by_class }
    where
      by_class : (c : Class) → (class_form b c).Ok (pick c (expire ms k).classes)
      by_class Feeders = expire_ok b Feeders k.classes.of_feeders (ok.classes Feeders) (cap32 (ceil ms 1_000)) (short (ceil ms 1_000))
      by_class Peers = expire_ok b Peers k.classes.of_peers (ok.classes Peers) (cap32 (ceil ms 1_000)) (short (ceil ms 1_000))
      by_class Own = expire_ok b Own k.classes.of_own (ok.classes Own) (cap32 (ceil ms 1_000)) (short (ceil ms 1_000))

  pub closed_ok : (k : Book) → BookOk b k → BookOk b (closed_book k)
  unfolding closed_book
  closed_ok k ok = record { limits = ok.limits; classes = ok.classes }

  pub limited_ok : (l : Limits) (k : Book) → limits_fit l ≡ true → BookOk b k → BookOk b (with_limits l k)
  unfolding with_limits
  limited_ok l k fit ok = record { limits = fit; classes = ok.classes }

  pub opened_ok : (l : Limits) → limits_fit l ≡ true → BookOk b (opened_book l)
  unfolding opened_book EachOk distinct entries_in
  opened_ok l fit = record { limits = fit; classes = by_class }
    where
      by_class : (c : Class) → (class_form b c).Ok (pick c (opened_book l).classes)
      by_class Feeders = (omega arith, ((omega arith, tt), refl))
      by_class Peers = (omega arith, ((omega arith, tt), refl))
      by_class Own = (omega arith, ((omega arith, tt), refl))
