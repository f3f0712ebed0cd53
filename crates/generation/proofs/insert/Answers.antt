use Rattle.generation.proofs.insert.Goals as goal

pub insert_known-requires : goal.insert_known-requires
insert_known-requires c =
    let p = c.requires in
    let known = c.contains-known.ensures in
    (known, (p.0, p.1.room _ known))
