use Rattle.std.proofs.Common.{arith}
use Rattle.model.specs.Class.{class_of}
use Rattle.book.proofs.Finding.{in_part, in_use, part_wide, found_none, found_here}
use Rattle.book.proofs.find.Goals as goal

pub returns-in_default : goal.returns-in_default
returns-in_default c = let s = c.args in found_none s.shares s.who s.second.0 s.part.now c.requires c.in_default.ensures

pub slice_bounds-place-end : goal.slice_bounds-place-end
slice_bounds-place-end c =
    let s = c.args in
    let pre = c.requires in
    let a = c.place_extent.ensures.start in
    let e = c.place_extent.ensures.end in
    let k = in_part s.shares (class_of s.who) s.part.now pre _ (in_use s.shares s.who s.part.now pre _ c.in-Some.ensures) in
    omega arith

pub look-requires : goal.look-requires
look-requires c =
    let s = c.args in
    let pre = c.requires in
    part_wide s.shares (class_of s.who) s.part.now pre _ _ _ (in_use s.shares s.who s.part.now pre _ c.in-Some.ensures)
    c.place_extent.ensures.start c.place_extent.ensures.end

pub returns : goal.returns
returns c =
    let s = c.args in
    found_here s.shares s.who s.second.0 s.part.now c.requires _ c.in-Some.ensures _ _ c.place_extent.ensures.start
    c.place_extent.ensures.end _ c.look.ensures
