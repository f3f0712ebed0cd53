-- Request Q-1, "Raw register view per meter": what the gateway remembers of a deliverer, and of a register, as 64-bit words.
use Rattle.std.specs.Prelude.{ℕ, List, [], ◌∷◌, ◌++◌}
use Rattle.runs.specs.Chunks.{flat}
use Rattle.model.specs.declared.Deliverer.{Deliverer}
use Rattle.model.specs.Class.{class_of}
use Rattle.model.specs.Generation.{Generation, held}
use Rattle.model.specs.Book.{Book, entries_of, pairs_of, places_of}
use Rattle.model.specs.BookWords.{pair_words}
use Rattle.model.specs.Register.{Register}
use Rattle.model.specs.Dump.{held_list}

-- "given a deliverer, list its pairs of second and count, rising, then its entries": one without a place has no pairs and 0 entries
unfoldable pub deliverer_view : Deliverer → Book → List ℕ
deliverer_view who book = let ps = places_of (class_of who) book in flat pair_words (pairs_of who ps) ++ (entries_of who ps ∷ [])

-- "given a register, list in dump sequence each held generation's bucket, oldest stamp, newest stamp and number held"
abbrev pub generation_view : Generation → List ℕ
generation_view g = g.bucket ∷ g.oldest ∷ g.newest ∷ held g ∷ []

unfoldable pub register_view : Register → List ℕ
register_view reg =
    flat generation_view
    (held_list reg.rings.of_feeders ++ (held_list reg.rings.of_peers ++ held_list reg.rings.of_own))

-- the rules of this file, for a theorem that computes
unfoldable pub compute_raw_views : ℕ
unfolding deliverer_view register_view
compute_raw_views = 0
