-- Equal part among events (specs/EqualPartAmong): what stands aside leaves the words tied to what the rules yield since the opening.
use Prim.Native.Nat.{ℕ, ◌≤◌}
use mathlib.Core.Path.{◌≡◌, ap, ◌∙◌, subst}
use mathlib.Core.Bool.{true}
use mathlib.Core.List.{List, [], ◌∷◌}
use Rattle.std.specs.Prelude.{Option, Some, None}
use lib.ListN.{length}
use Rattle.model.specs.declared.Settings.{Settings}
use Rattle.model.specs.Settings.{words_needed}
use Rattle.model.specs.Calls.{sound, held_in}
use Rattle.model.specs.View.{words_after}
use Rattle.model.specs.Once.{Event, Calls, Replaces, Aside, left_by_event}
use Rattle.model.specs.EqualPart.{Since, since_opening}
use Rattle.model.specs.EqualPartAmong.{LeavesHeld, HeldAside, since_among, words_among, EqualPartAmong}
use Rattle.model.proofs.View.{kept_are, view_sound, view_read}
use Rattle.model.proofs.EqualPartWords.{Tied, TiedIf, list_ties, due}

aside_ties : (x : Since) (ws after : List ℕ) → LeavesHeld ws after → Tied x ws → Tied x after
aside_ties x ws after l t =
    let s = x.settings in
    let kept = l.settings ∙ kept_are s t.fit t.trimmed ws t.long t.sound in
    let r = view_read after x.state (l.state ∙ view_sound s t.fit t.trimmed ws t.long t.sound ∙ ap Some t.holds) in
    record {
      fit = t.fit;
      trimmed = t.trimmed;
      long = subst (λ (k : Settings). words_needed k ≤ length after) kept r.long;
      sound = subst (λ (k : Settings). sound k after ≡ true) kept r.sound;
      holds = subst (λ (k : Settings). held_in k after ≡ x.state) kept r.holds;
      bounded = t.bounded;
    }

aside_ties_if : (k : Option Since) (ws after : List ℕ) → LeavesHeld ws after → TiedIf k ws → TiedIf k after
aside_ties_if None ws after l t = tt
aside_ties_if (Some x) ws after l t = aside_ties x ws after l t

events_tie : (es : List Event) (k : Option Since) (ws : List ℕ) → HeldAside ws es → TiedIf k ws → TiedIf (since_among k ws es) (words_among ws es)
unfolding since_among words_among left_by_event
events_tie [] k ws a t = t
events_tie (Calls gs ∷ es) k ws a t = events_tie es (since_opening k ws gs) (words_after ws gs) a (list_ties gs k ws t)
events_tie (Replaces after ∷ es) k ws a t = events_tie es None after a tt
events_tie (Aside after ∷ es) k ws a t = events_tie es k after a.1 (aside_ties_if k ws after a.0 t)

pub equal_part_among : (start : List ℕ) (events : List Event) → EqualPartAmong start events
equal_part_among start events a x e =
    due x (words_among start events) (subst (λ (k : Option Since). TiedIf k (words_among start events)) e (events_tie events None start a tt))
