-- How the ways of a committer are joined.
use Rattle.std.proofs.Common.{◌≡◌, ℕ, suc, ◌-◌, ◌<◌, ◌≤◌, inl, inr, Bool, List, [], ◌∷◌, ◌++◌, length, take, refl, ap, sym, subst, ◌∙◌, arith, append_assoc, append-nil, length-append}
use Rattle.std.specs.Prelude.{Result, Ok, Err, IsErrAnd, IfErr}
use Rattle.std.proofs.KnownBytes.{Appends-nil, Appends-trans}
use Rattle.ledger_bytes.specs.Begins.{Begins}
use Rattle.ledger_bytes.specs.Causes.{count_after}
use Rattle.journal_record.specs.Entry.{Entry}
use Rattle.ledger_model.specs.Dues.{due_lines, AllIn}
use Rattle.ledger_model.specs.Growing.{Grows}
use Rattle.ledger_model.specs.History.{History}
use Rattle.ledger_model.specs.declared.due.Due.{Due}
use Rattle.ledger_model.proofs.GrowLaws.{grows_not, grows_then}
use Rattle.ledger_model.proofs.RunLaws.{due_lines-append}
use Rattle.ledger_model.proofs.WaitLaws.{in-append, all_in_more, begins_closed}
use Rattle.batch_committer.specs.World.{Pair, World, Holds, MeetsNoFault, Writes, Goes, Says, LeftAtTheEnd, OneFailed, EndsBy, EndsOnTheWay, before_last, IsLeftClean, stored_part}
use Rattle.batch_committer.specs.declared.failure.CommitErr.{CommitErr}
use Rattle.batch_committer.specs.declared.failure.CommitErr.TheVariants.{DiskFault, WriteFault, NoMemory, Closed}

-- ---- lists that begin one another

pub begins_not : {A : Type 0} (xs : List A) → Begins xs xs
begins_not xs = record { rest = []; is = sym (append-nil xs) }

pub begins_then : {A : Type 0} (xs ys zs : List A) → Begins xs ys → Begins ys zs → Begins xs zs
begins_then xs ys zs x y = record { rest = x.rest ++ y.rest; is = y.is ∙ ap (λ l. l ++ y.rest) x.is ∙ append_assoc xs x.rest y.rest }

begins_more : {A : Type 0} (front part whole : List A) → Begins part whole → Begins (front ++ part) (front ++ whole)
begins_more front part whole b = record { rest = b.rest; is = ap (λ l. front ++ l) b.is ∙ sym (append_assoc front part b.rest) }

-- ---- faults

pub no_fault : (w : World) → MeetsNoFault w w
no_fault w = record { a = refl; b = refl; sink = (refl, refl) }

pub no_fault_then : (w m t : World) → MeetsNoFault w m → MeetsNoFault m t → MeetsNoFault w t
no_fault_then w m t x y = record { a = y.a ∙ x.a; b = y.b ∙ x.b; sink = (y.sink.0 ∙ x.sink.0, y.sink.1 ∙ x.sink.1) }

pub failed_from : (x y z : Pair) → y.a.faults ≡ x.a.faults → y.b.faults ≡ x.b.faults → OneFailed y z → OneFailed x z
failed_from x y z a b (inl f) = inl (f.0 ∙ ap count_after a, f.1 ∙ b)
failed_from x y z a b (inr f) = inr (f.0 ∙ a, f.1 ∙ ap count_after b)

pub ends_later : (end : CommitErr) (w m t : World) → MeetsNoFault w m → EndsBy end m t → EndsBy end w t
ends_later DiskFault w m t x e = (failed_from w.disks m.disks t.disks x.a x.b e.0, (e.1.0 ∙ x.sink.0, e.1.1 ∙ x.sink.1))
ends_later WriteFault w m t x e = (
  e.0 ∙ x.a,
  e.1 ∙ x.b,
  elim e.2 [ inl f ↦ inl (f.0 ∙ ap count_after x.sink.0, f.1 ∙ x.sink.1) | inr f ↦ inr (f.0 ∙ x.sink.0, f.1 ∙ ap count_after x.sink.1) ],
)
ends_later NoMemory w m t x e = no_fault_then w m t x e
ends_later Closed w m t x e = e

-- ---- a way on

pub writes_then : (h g s t : History) (old more1 mid more2 new : List Due) (sofar1 sofar2 : List ℕ) → Grows h g → Begins s.closed t.closed → Writes h s old more1 mid sofar1 → Writes g t mid more2 new sofar2 → Writes g t old (more1 ++ more2) new (sofar1 ++ sofar2)
writes_then h g s t old more1 mid more2 new sofar1 sofar2 x y a b = record {
  done = a.done ++ b.done;
  split = sym (append_assoc old more1 more2) ∙ ap (λ l. l ++ more2) a.split ∙ append_assoc a.done mid more2 ∙ ap (λ l. a.done ++ l) b.split ∙ sym (append_assoc a.done b.done new);
  kept = in-append t.closed a.done b.done (all_in_more s.closed t.closed a.done y a.kept) b.kept;
  text = λ f z none. ap (λ l. l ++ sofar2) (a.text f (grows_then h g f x z) none) ∙ ap (λ l. due_lines f a.done ++ l) (b.text f z none) ∙ sym (due_lines-append f a.done b.done);
}

pub goes_then : (tells : Bool) (w m t : World) (f g : History → History) (d e : History → List Due) → Goes tells w f d m → Goes tells m g e t → Goes tells w (λ h. g (f h)) (λ h. d h ++ e (f h)) t
goes_then tells w m t f g d e x y = record {
  holds = λ h p. y.holds (f h) (x.holds h p);
  grows = λ h p. grows_then h (f h) (g (f h)) (x.grows h p) (y.grows (f h) (x.holds h p));
  stays = λ h p. begins_then (stored_part w.kept h).closed (stored_part m.kept (f h)).closed (stored_part t.kept (g (f h))).closed (x.stays h p) (y.stays (f h) (x.holds h p));
  sofar = x.sofar ++ y.sofar;
  appended = Appends-trans w.sink.held m.sink.held t.sink.held x.sofar y.sofar x.appended y.appended;
  writes = λ h p.
      let k = f h in
      writes_then k (g k) (stored_part m.kept k) (stored_part t.kept (g k)) w.kept.dues (d h) m.kept.dues (e k) t.kept.dues x.sofar y.sofar (y.grows k (x.holds h p)) (y.stays k (x.holds h p)) (x.writes h p) (y.writes k (x.holds h p));
  no_fault = no_fault_then w m t x.no_fault y.no_fault;
}

-- ---- what is left

-- all but the last of more blocks begin with these
take_front : (xs rest : List (List Entry)) → 1 ≤ length rest → take (length (xs ++ rest) - 1) (xs ++ rest) ≡ xs ++ take (length rest - 1) rest
take_front [] rest more = refl
take_front (x ∷ xs) rest more =
    let count : suc (length (xs ++ rest)) - 1 ≡ suc (length (xs ++ rest) - 1) = omega (arith, more, length-append xs rest) in
    ap (λ (n : ℕ). take n (x ∷ (xs ++ rest))) count ∙ ap (λ (l : List (List Entry)). x ∷ l) (take_front xs rest more)

begins_front : (xs ys : List (List Entry)) → Begins xs ys → length xs < length ys → Begins xs (before_last ys)
begins_front xs ys b more = record {
  rest = take (length b.rest - 1) b.rest;
  is = ap before_last b.is ∙ take_front xs b.rest (omega (arith, more, ap length b.is, length-append xs b.rest));
}

begins_long : (xs ys : List (List Entry)) → Begins xs ys → length xs ≤ length ys
begins_long xs ys b = omega (arith, ap length b.is, length-append xs b.rest)

-- images are as clean where more was written before
clean_more : (end : CommitErr) (h g kept : History) (done more : List Due) (a b : List ℕ) → Begins h.closed g.closed → Begins g.closed kept.closed → AllIn g.closed done → IsLeftClean end g kept more a b → IsLeftClean end h kept (done ++ more) a b
clean_more DiskFault h g kept done more a b x y all (inl e) = inl e
clean_more DiskFault h g kept done more a b x y all (inr u) =
    inr
    (record {
      added = omega (arith, begins_long h.closed g.closed x, u.added);
      unanswered = in-append (before_last kept.closed) done more (all_in_more g.closed (before_last kept.closed) done (begins_front g.closed kept.closed y u.added) all) u.unanswered;
    })
clean_more WriteFault h g kept done more a b x y all c = c
clean_more NoMemory h g kept done more a b x y all c = c
clean_more Closed h g kept done more a b x y all c = c

-- ---- the end of a way

says_more : (end : CommitErr) (front part lines : List ℕ) → Says end part lines → Says end (front ++ part) (front ++ lines)
says_more DiskFault front part lines s = ap (λ l. front ++ l) s
says_more WriteFault front part lines s = (begins_more front part lines s.0, omega (arith, s.1, length-append front part, length-append front lines))
says_more NoMemory front part lines s = ap (λ l. front ++ l) s
says_more Closed front part lines s = ap (λ l. front ++ l) s

pub stops_then : (s t g whole : History) (old more1 mid more2 : List Due) (sofar part : List ℕ) (end : CommitErr) (disks : Pair) → Begins s.closed t.closed → Grows g whole
    → Writes g t old more1 mid sofar → LeftAtTheEnd t whole (mid ++ more2) end part disks → LeftAtTheEnd s whole (old ++ (more1 ++ more2)) end (sofar ++ part) disks
stops_then s t g whole old more1 mid more2 sofar part end disks x y a b = record {
  done = a.done ++ b.done;
  rest = b.rest;
  split = sym (append_assoc old more1 more2) ∙ ap (λ l. l ++ more2) a.split ∙ append_assoc a.done mid more2 ∙ ap (λ l. a.done ++ l) b.split ∙ sym (append_assoc a.done b.done b.rest);
  said = λ f z none.
      subst (Says end (sofar ++ part)) (ap (λ l. l ++ due_lines f b.done) (a.text f (grows_then g whole f y z) none) ∙ sym (due_lines-append f a.done b.done))
      (says_more end sofar part (due_lines f b.done) (b.said f z none));
  images = λ i j p q. let l = b.images i j p q in record {
    kept = l.kept;
    stands = l.stands;
    no_shorter = begins_then s.closed t.closed l.kept.closed x l.no_shorter;
    no_longer = l.no_longer;
    receipts = in-append l.kept.closed a.done b.done (all_in_more t.closed l.kept.closed a.done l.no_shorter a.kept) l.receipts;
    clean = clean_more end s t l.kept a.done b.done i j x l.no_shorter a.kept l.clean;
  };
}

pub ended_then : (tells : Bool) (w m t : World) (f g : History → History) (d e : History → List Due) (end : CommitErr) → Goes tells w f d m → EndsOnTheWay tells m g e end t → EndsOnTheWay tells w (λ h. g (f h)) (λ h. d h ++ e (f h)) end t
ended_then tells w m t f g d e end x y = record {
  grows = λ h p. grows_then h (f h) (g (f h)) (x.grows h p) (y.grows (f h) (x.holds h p));
  part = x.sofar ++ y.part;
  appended = Appends-trans w.sink.held m.sink.held t.sink.held x.sofar y.part x.appended y.appended;
  stops = λ h p.
      let k = f h in
      stops_then (stored_part w.kept h) (stored_part m.kept k) k (g k) w.kept.dues (d h) m.kept.dues (e k) x.sofar y.part end t.disks (x.stays h p) (y.grows k (x.holds h p)) (x.writes h p) (y.stops k (x.holds h p));
  cause = ends_later end w m t x.no_fault y.cause;
}

-- ---- other words for the same way

pub goes_as : (tells : Bool) (w t : World) (f g : History → History) (d e : History → List Due) → ((h : History) → Holds tells w h → f h ≡ g h) → ((h : History) → Holds tells w h → d h ≡ e h) → Goes tells w f d t → Goes tells w g e t
goes_as tells w t f g d e same due x = record {
  holds = λ h p. subst (Holds tells t) (same h p) (x.holds h p);
  grows = λ h p. subst (Grows h) (same h p) (x.grows h p);
  stays = λ h p. subst (λ (k : History). Begins (stored_part w.kept h).closed (stored_part t.kept k).closed) (same h p) (x.stays h p);
  sofar = x.sofar;
  appended = x.appended;
  writes = λ h p.
      subst (λ (l : List Due). Writes (g h) (stored_part t.kept (g h)) w.kept.dues l t.kept.dues x.sofar) (due h p)
      (subst (λ (k : History). Writes k (stored_part t.kept k) w.kept.dues (d h) t.kept.dues x.sofar) (same h p) (x.writes h p));
  no_fault = x.no_fault;
}

pub ended_as : (tells : Bool) (w t : World) (f g : History → History) (d e : History → List Due) (end : CommitErr) → ((h : History) → Holds tells w h → f h ≡ g h) → ((h : History) → Holds tells w h → d h ≡ e h) → EndsOnTheWay tells w f d end t → EndsOnTheWay tells w g e end t
ended_as tells w t f g d e end same due x = record {
  grows = λ h p. subst (Grows h) (same h p) (x.grows h p);
  part = x.part;
  appended = x.appended;
  stops = λ h p.
      subst (λ (l : List Due). LeftAtTheEnd (stored_part w.kept h) (g h) (w.kept.dues ++ l) end x.part t.disks) (due h p)
      (subst (λ (k : History). LeftAtTheEnd (stored_part w.kept h) k (w.kept.dues ++ d h) end x.part t.disks) (same h p) (x.stops h p));
  cause = x.cause;
}

-- an end on the way to a history is one on the way to each that comes of it
pub ended_wider : (tells : Bool) (w t : World) (f g : History → History) (d e : History → List Due) (end : CommitErr) → ((h : History) → Holds tells w h → Grows (f h) (g h)) → EndsOnTheWay tells w f d end t → EndsOnTheWay tells w g (λ h. d h ++ e h) end t
ended_wider tells w t f g d e end wider x = record {
  grows = λ h p. grows_then h (f h) (g h) (x.grows h p) (wider h p);
  part = x.part;
  appended = x.appended;
  stops = λ h p. let s = x.stops h p in record {
    done = s.done;
    rest = s.rest ++ e h;
    split = sym (append_assoc w.kept.dues (d h) (e h)) ∙ ap (λ l. l ++ e h) s.split ∙ append_assoc s.done s.rest (e h);
    said = λ k y none. s.said k (grows_then (f h) (g h) k (wider h p) y) none;
    images = λ i j a b. let l = s.images i j a b in record {
      kept = l.kept;
      stands = l.stands;
      no_shorter = l.no_shorter;
      no_longer = begins_then l.kept.closed (f h).closed (g h).closed l.no_longer (begins_closed (f h) (g h) (wider h p));
      receipts = l.receipts;
      clean = l.clean;
    };
  };
  cause = x.cause;
}

-- no way at all
pub goes_same : (tells : Bool) (w : World) → Goes tells w (λ h. h) (λ h. []) w
goes_same tells w = record {
  holds = λ h p. p;
  grows = λ h p. grows_not h;
  stays = λ h p. begins_not (stored_part w.kept h).closed;
  sofar = [];
  appended = Appends-nil w.sink.held;
  writes = λ h p. record { done = []; split = append-nil w.kept.dues; kept = tt; text = λ f y none. refl };
  no_fault = no_fault w;
}

-- no call ends a run as one that an earlier call ended
pub never_closed : (tells : Bool) (w t : World) (f : History → History) (d : History → List Due) (end : CommitErr) → end ≡ Closed → EndsOnTheWay tells w f d end t → ⊥
never_closed tells w t f d end is x = subst (λ e. EndsBy e w t) is x.cause

-- a result that isn't this error
pub err_not : {T : Type 0} (IsSo : CommitErr → Type 0) (result : Result T CommitErr) (end : CommitErr) → (IsSo end → ⊥) → IfErr result IsSo → result ≡ Err end → ⊥
err_not IsSo result end never so is = never (subst (λ r. IfErr r IsSo) is so)

-- an error that is this one
pub err_is : {T : Type 0} (IsSo : CommitErr → Type 0) (result : Result T CommitErr) (wanted : CommitErr) → IsErrAnd result (λ end. end ≡ wanted) → IsSo wanted → IfErr result IsSo
err_is IsSo (Ok value) wanted is so = tt
err_is IsSo (Err end) wanted is so = subst IsSo (sym is) so

-- an end that is this one
pub ended_by : (tells : Bool) (w t : World) (f : History → History) (d : History → List Due) (end wanted : CommitErr) → end ≡ wanted → EndsOnTheWay tells w f d wanted t → EndsOnTheWay tells w f d end t
ended_by tells w t f d end wanted is x = subst (λ e. EndsOnTheWay tells w f d e t) (sym is) x
