use Rattle.book_expiry_try.proofs.expire.Goals as goal

pub expire-requires : goal.expire-requires
expire-requires g c =
    let is_class = c.is_class-sound in
    let if1 = c.if-not-sound in
    (is_class.ensures if1.false, c.requires)
