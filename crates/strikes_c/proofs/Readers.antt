-- Entry points that only read leave the words (specs/Readers), since the calls behind them do. Assumes nothing.
use mathlib.Core.Path.{sym}
use Rattle.model.proofs.Unaltered.{readers_leave}
use Rattle.strikes_c.specs.Readers.{ReadersKept}

pub readers_kept : ReadersKept
readers_kept st ws call n olds news reads =
    let stay = sym (readers_leave st ws call reads) in
    record {
      by_read = λ c. record { number = c.number; words = stay; values = c.values };
      by_written = λ out c. record { number = c.number; words = stay; values = c.values };
    }
