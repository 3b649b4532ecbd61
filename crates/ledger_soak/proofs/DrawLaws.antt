-- One draw more.
use Rattle.std.specs.Prelude.{suc, zero}
use Rattle.std.proofs.Common.{◌≡◌, ℕ, ◌+◌, ◌%◌, [], ◌∷◌, ◌++◌, length, refl, ap, sym, ◌∙◌, arith}
use Rattle.ledger_disk.specs.Generator.{next_draw}
use Rattle.ledger_soak.specs.Tasks.{drawn, state_after, drawn_bytes}

pub state_none : (x : ℕ) → state_after 0 x ≡ x
unfolding state_after
state_none x = refl

pub state_next : (n x : ℕ) → state_after (suc n) x ≡ state_after n (next_draw x)
unfolding state_after
state_next n x = refl

pub state_more : (n x : ℕ) → state_after (n + 1) x ≡ next_draw (state_after n x)
state_more zero x = state_next 0 x ∙ state_none (next_draw x) ∙ ap next_draw (sym (state_none x))
state_more (suc n) x =
    let e : suc n + 1 ≡ suc (n + 1) = omega arith in
    ap (λ (m : ℕ). state_after m x) e ∙ state_next (n + 1) x ∙ state_more n (next_draw x) ∙ ap next_draw (sym (state_next n x))

pub state_then : (m n x : ℕ) → state_after (m + n) x ≡ state_after n (state_after m x)
state_then zero n x = ap (λ (k : ℕ). state_after k x) (let e : 0 + n ≡ n = omega arith in e) ∙ ap (state_after n) (sym (state_none x))
state_then (suc m) n x =
    let e : suc m + n ≡ suc (m + n) = omega arith in
    ap (λ (k : ℕ). state_after k x) e ∙ state_next (m + n) x ∙ state_then m n (next_draw x) ∙ ap (state_after n) (sym (state_next m x))

pub bytes_none : (x : ℕ) → drawn_bytes 0 x ≡ []
unfolding drawn_bytes
bytes_none x = refl

bytes_next : (n x : ℕ) → drawn_bytes (suc n) x ≡ drawn (next_draw x) % 256 ∷ drawn_bytes n (next_draw x)
unfolding drawn_bytes
bytes_next n x = refl

pub bytes_more : (n x : ℕ) → drawn_bytes (n + 1) x ≡ drawn_bytes n x ++ drawn (next_draw (state_after n x)) % 256 ∷ []
bytes_more zero x =
    bytes_next 0 x ∙ ap (λ l. drawn (next_draw x) % 256 ∷ l) (bytes_none (next_draw x))
    ∙ ap (λ y. drawn (next_draw y) % 256 ∷ []) (sym (state_none x))
    ∙ ap (λ l. l ++ drawn (next_draw (state_after 0 x)) % 256 ∷ []) (sym (bytes_none x))
bytes_more (suc n) x =
    let e : suc n + 1 ≡ suc (n + 1) = omega arith in
    ap (λ (m : ℕ). drawn_bytes m x) e ∙ bytes_next (n + 1) x
    ∙ ap (λ l. drawn (next_draw x) % 256 ∷ l) (bytes_more n (next_draw x))
    ∙ ap (λ y. drawn (next_draw x) % 256 ∷ (drawn_bytes n (next_draw x) ++ drawn (next_draw y) % 256 ∷ [])) (sym (state_next n x))
    ∙ ap (λ l. l ++ drawn (next_draw (state_after (suc n) x)) % 256 ∷ []) (sym (bytes_next n x))

pub bytes_long : (n x : ℕ) → length (drawn_bytes n x) ≡ n
bytes_long zero x = ap length (bytes_none x)
bytes_long (suc n) x = ap length (bytes_next n x) ∙ ap suc (bytes_long n (next_draw x))
