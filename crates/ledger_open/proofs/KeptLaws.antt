-- What is kept of a history.
use Rattle.std.specs.List.{list_any}
use Rattle.std.proofs.Common.{◌≡◌, ℕ, Bool, true, false, ◌||◌, List, [], ◌∷◌, ◌++◌, map, refl, sym, ◌∙◌, ap}
use Rattle.std.proofs.lemmas.Bool.{true≢false}
use Rattle.journal_record.specs.Entry.{Entry}
use Rattle.journal_record.specs.declared.header.Header.{Header}
use Rattle.ledger_model.specs.History.{journals_of}
use Rattle.ledger_open.specs.Standing.{AllKept, SameButHidden}

-- lists that are kept, one behind the other
pub all_more : (hid gone : ℕ → Bool) (es fs xs ys : List Entry) → AllKept hid gone es fs → AllKept hid gone xs ys → AllKept hid gone (es ++ xs) (fs ++ ys)
all_more hid gone [] [] xs ys a b = b
all_more hid gone [] (f ∷ fs) xs ys a b = absurd a
all_more hid gone (e ∷ es) [] xs ys a b = absurd a
all_more hid gone (e ∷ es) (f ∷ fs) xs ys a b = (a.0, all_more hid gone es fs xs ys a.1 b)

-- the journals of blocks that are kept
pub all_kept : (hid gone : ℕ → Bool) (bs cs : List (List Entry)) → SameButHidden hid gone bs cs → AllKept hid gone (journals_of bs) (journals_of cs)
all_kept hid gone [] [] s = tt
all_kept hid gone [] (c ∷ cs) s = absurd s
all_kept hid gone (b ∷ bs) [] s = absurd s
all_kept hid gone (b ∷ bs) (c ∷ cs) s = all_more hid gone b c (journals_of bs) (journals_of cs) s.0 (all_kept hid gone bs cs s.1)

pub same_more : (hid gone : ℕ → Bool) (bs cs : List (List Entry)) (b c : List Entry) → SameButHidden hid gone bs cs → AllKept hid gone b c → SameButHidden hid gone (bs ++ b ∷ []) (cs ++ c ∷ [])
same_more hid gone [] [] b c s k = (k, tt)
same_more hid gone [] (y ∷ ys) b c s k = absurd s
same_more hid gone (x ∷ xs) [] b c s k = absurd s
same_more hid gone (x ∷ xs) (y ∷ ys) b c s k = (s.0, same_more hid gone xs ys b c s.1 k)

-- a history that hides more, and whose file keeps more
module _ (hid gone hid′ gone′ : ℕ → Bool) (shown : (n : ℕ) → hid′ n ≡ false → hid n ≡ false) (zeroed : (n : ℕ) → gone′ n ≡ true → gone n ≡ true) where
  all_weaker : (es fs : List Entry) → AllKept hid gone es fs → AllKept hid′ gone′ es fs
  all_weaker [] [] a = tt
  all_weaker [] (f ∷ fs) a = absurd a
  all_weaker (e ∷ es) [] a = absurd a
  all_weaker (e ∷ es) (f ∷ fs) a = (
    record { header = a.0.header; who = a.0.who; shown = λ s. a.0.shown (shown e.header.jsn s); zeroed = λ z. a.0.zeroed (zeroed e.header.jsn z) },
    all_weaker es fs a.1,
  )

  pub same_weaker : (bs cs : List (List Entry)) → SameButHidden hid gone bs cs → SameButHidden hid′ gone′ bs cs
  same_weaker [] [] s = tt
  same_weaker [] (c ∷ cs) s = absurd s
  same_weaker (b ∷ bs) [] s = absurd s
  same_weaker (b ∷ bs) (c ∷ cs) s = (all_weaker b c s.0, same_weaker bs cs s.1)

-- what depends on headers is the same
pub header_map_same : {A : Type 0} (hid gone : ℕ → Bool) (f : Header → A) (es fs : List Entry) → AllKept hid gone es fs → map (λ (e : Entry). f e.header) es ≡ map (λ (e : Entry). f e.header) fs
header_map_same hid gone f [] [] a = refl
header_map_same hid gone f [] (y ∷ ys) a = absurd a
header_map_same hid gone f (x ∷ xs) [] a = absurd a
header_map_same {A} hid gone f (x ∷ xs) (y ∷ ys) a =
    ap (λ (h : Header). f h ∷ map (λ (e : Entry). f e.header) xs) (sym a.0.header) ∙ ap (λ (l : List A). f y.header ∷ l) (header_map_same hid gone f xs ys a.1)

pub header_any_same : (hid gone : ℕ → Bool) (f : Header → Bool) (es fs : List Entry) → AllKept hid gone es fs → list_any (λ (e : Entry). f e.header) es ≡ list_any (λ (e : Entry). f e.header) fs
header_any_same hid gone f [] [] a = refl
header_any_same hid gone f [] (y ∷ ys) a = absurd a
header_any_same hid gone f (x ∷ xs) [] a = absurd a
header_any_same hid gone f (x ∷ xs) (y ∷ ys) a =
    ap (λ (h : Header). f h || list_any (λ (e : Entry). f e.header) xs) (sym a.0.header) ∙ ap (λ (v : Bool). f y.header || v) (header_any_same hid gone f xs ys a.1)

-- two histories of which the same is kept agree but for what is hidden
module _ (hid gone gone′ : ℕ → Bool) where
  all_alike : (es xs fs : List Entry) → AllKept hid gone es fs → AllKept hid gone′ xs fs → AllKept hid (λ n. false) es xs
  all_alike [] [] [] a b = tt
  all_alike [] [] (f ∷ fs) a b = absurd a
  all_alike [] (x ∷ xs) [] a b = absurd b
  all_alike [] (x ∷ xs) (f ∷ fs) a b = absurd a
  all_alike (e ∷ es) [] [] a b = absurd a
  all_alike (e ∷ es) [] (f ∷ fs) a b = absurd b
  all_alike (e ∷ es) (x ∷ xs) [] a b = absurd a
  all_alike (e ∷ es) (x ∷ xs) (f ∷ fs) a b = (
    record {
      header = sym b.0.header ∙ a.0.header;
      who = sym b.0.who ∙ a.0.who;
      shown = λ s. sym (b.0.shown (ap (λ (h : Header). hid h.jsn) (sym b.0.header ∙ a.0.header) ∙ s)) ∙ a.0.shown s;
      zeroed = λ z. let no : ⊥ = true≢false (sym z) in absurd no;
    },
    all_alike es xs fs a.1 b.1,
  )

  pub same_alike : (bs ds cs : List (List Entry)) → SameButHidden hid gone bs cs → SameButHidden hid gone′ ds cs → SameButHidden hid (λ n. false) bs ds
  same_alike [] [] [] s t = tt
  same_alike [] [] (c ∷ cs) s t = absurd s
  same_alike [] (d ∷ ds) [] s t = absurd t
  same_alike [] (d ∷ ds) (c ∷ cs) s t = absurd s
  same_alike (b ∷ bs) [] [] s t = absurd s
  same_alike (b ∷ bs) [] (c ∷ cs) s t = absurd t
  same_alike (b ∷ bs) (d ∷ ds) [] s t = absurd s
  same_alike (b ∷ bs) (d ∷ ds) (c ∷ cs) s t = (all_alike b d c s.0 t.0, same_alike bs ds cs s.1 t.1)

-- .. and the other way round
module _ (hid gone : ℕ → Bool) where
  all_back : (es fs : List Entry) → AllKept hid gone es fs → AllKept hid (λ n. false) fs es
  all_back [] [] a = tt
  all_back [] (f ∷ fs) a = absurd a
  all_back (e ∷ es) [] a = absurd a
  all_back (e ∷ es) (f ∷ fs) a = (
    record {
      header = sym a.0.header;
      who = sym a.0.who;
      shown = λ s. sym (a.0.shown (ap (λ (h : Header). hid h.jsn) (sym a.0.header) ∙ s));
      zeroed = λ z. let no : ⊥ = true≢false (sym z) in absurd no;
    },
    all_back es fs a.1,
  )

  pub same_back : (bs cs : List (List Entry)) → SameButHidden hid gone bs cs → SameButHidden hid (λ n. false) cs bs
  same_back [] [] s = tt
  same_back [] (c ∷ cs) s = absurd s
  same_back (b ∷ bs) [] s = absurd s
  same_back (b ∷ bs) (c ∷ cs) s = (all_back b c s.0, same_back bs cs s.1)
