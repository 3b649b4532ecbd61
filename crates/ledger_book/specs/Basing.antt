-- What a book is made of where it begins behind a base.
use Rattle.ledger_bytes.specs.declared.digest.Digest.{Digest}
use Rattle.journal_record.specs.declared.member.Member.{Member}

-- a member with this key, whose journal isn't kept
abbrev pub member_with : Digest → Member
member_with key = record { key = key; jsn = 0 }
