use Rattle.journal_record.proofs.ReadingLaws.{header_back}
use Rattle.journal_record.proofs.reading.is_inverse_of_encoding.Goals as goal

pub returns : goal.returns
returns c = record {
  again = λ h whole rest fits. header_back.again h whole rest (record { rules = fits.0; widths = fits.1 });
  takes = λ l h after bytes e. let t = header_back.takes l h after bytes e in (t.0, (t.1.rules, t.1.widths));
}
