use Rattle.std.proofs.Common.{arith, ap, ◌∙◌, ◌∷◌, ◌++◌, [], ℕ, List}
use Rattle.time_peg.specs.Entries.{last_time}
use Rattle.notary_ledger.proofs.LocalLaws.{told_place, sound_put, sound_failed, list_after, least_on, rose_on, none_half}
use Rattle.notary_ledger.proofs.local.LocalNotaryNotary.stamp.Goals as goal

pub put_entry-requires-clause-length : goal.put_entry-requires-clause-length
put_entry-requires-clause-length g c = told_place _ _ _ _ c.len-index.result c.len-index.ensures c.self.invariant.sound

pub invariant_of-self-in_default-put_entry : goal.invariant_of-self-in_default-put_entry
invariant_of-self-in_default-put_entry g c = record {
  sound =
      sound_failed _ _ _ _ _ _ _ _ c.self.invariant.sound c.len-index.result c.len-index.ensures (omega (arith, c.if-index-ge-NOTARY_LIMIT.false)) c.new_entry-entry.ensures.width
      (omega (arith, c.new_entry-entry.ensures.time, c.max-time.ensures, c.last_time.ensures, ap (last_time 0) c.in-Ok.ensures.entries))
      c.in-Ok.ensures.entries c.put_entry.ensures.told c.in_default-put_entry.ensures.err;
  fits = c.self.invariant.fits;
  least = least_on _ _ _ c.self.invariant.fits c.self.invariant.least c.in_default-put_entry.ensures.faults;
  failed = λ is. rose_on _ _ _ c.self.invariant.least c.in_default-put_entry.ensures.faults;
}

pub invariant_of-self-2 : goal.invariant_of-self-2
invariant_of-self-2 g c = record {
  sound =
      sound_put _ _ _ _ _ _ _ _ c.self.invariant.sound c.len-index.result c.len-index.ensures (omega (arith, c.if-index-ge-NOTARY_LIMIT.false)) c.new_entry-entry.ensures.width
      (omega (arith, c.new_entry-entry.ensures.time, c.max-time.ensures, c.last_time.ensures, ap (last_time 0) c.in-Ok.ensures.entries))
      (c.push.ensures ∙ ap (λ (l : List (List ℕ)). l ++ c.new_entry-entry.result ∷ []) c.in-Ok.ensures.entries)
      c.in-Ok-put_entry.ensures.opened c.in-Ok-put_entry.ensures.told_ok c.in-Ok-put_entry.ensures.ok;
  fits = c.self.invariant.fits;
  least = omega (arith, c.self.invariant.least, c.in-Ok-put_entry.ensures.faults);
  failed = λ is. absurd (none_half _ c.in-Ok-put_entry.ensures.opened is);
}

pub returns-clause-lawful : goal.returns-clause-lawful
returns-clause-lawful g c =
    list_after _ _ _ c.len-index.result c.self.invariant.sound.list c.len-index.ensures (omega (arith, c.if-index-ge-NOTARY_LIMIT.false)) c.new_entry-entry.ensures.width
    (omega (arith, c.new_entry-entry.ensures.time, c.max-time.ensures, c.last_time.ensures, ap (last_time 0) c.in-Ok.ensures.entries))
    (c.push.ensures ∙ ap (λ (l : List (List ℕ)). l ++ c.new_entry-entry.result ∷ []) c.in-Ok.ensures.entries)
