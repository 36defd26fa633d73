-- The bytes of a number in LEB128 are those up to the first below 128, of which there are at most five.
use Rattle.std.proofs.Common.{◌≡◌, ℤ, ℕ, zero, suc, ◌+◌, ◌-◌, ◌<◌, ◌≤◌, Bool, true, false, List, [], ◌∷◌, ◌++◌, length, take, drop, Result, Ok, Err, refl, sym, ap, subst, ◌∙◌, arith, ◌⊎◌, inl, inr, ltb}
use Rattle.std.proofs.lemmas.Bool.{cases_lt, lt-ltb, le-ltb}
use Rattle.std.proofs.lemmas.List.{take-append-drop, take_at, take_all, length-take, length-drop, length-append}
use Rattle.dex_base.specs.declared.fault.BaseFault.{BaseFault}
use Rattle.dex_base.specs.declared.fault.BaseFault.TheVariants.{Short, LongLeb}
use Rattle.dex_base.specs.Reading.{◌>>=◌}
use Rattle.dex_base.specs.Decides.{Decides}
use Rattle.dex_base.specs.Leb.{EndsLeb, IsLeb, IsLebAt, IsUlebAt, IsSlebAt, GoesOn, BadLeb, uleb_value, sleb_value, leb_in, leb_at, uleb_at, sleb_at, Ends, Long}
use Rattle.dex_base.proofs.Decides.{ok_is, err_is, not_both, same, then, pure}

-- what is read in at most so many bytes
pub record Found (k : ℕ) (bytes text : List ℕ) : Type 0 where
  pub few : length text ≤ k
  pub ends : EndsLeb text
  pub front : bytes ≡ text ++ drop (length text) bytes

pub some_byte : (text : List ℕ) → EndsLeb text → 0 < length text
some_byte [] ends = absurd ends
some_byte (b ∷ bs) ends = omega arith

EndsLeb-cons : (b : ℕ) (text : List ℕ) → 128 ≤ b → EndsLeb text → EndsLeb (b ∷ text)
EndsLeb-cons b [] high ends = absurd ends
EndsLeb-cons b (c ∷ cs) high ends = (high, ends)

behind : (short long : BaseFault) (k b : ℕ) (bs text : List ℕ) (read : Result (List ℕ) BaseFault) → 128 ≤ b → ((t : List ℕ) → read ≡ Ok t → Found k bs t) → (read >>= λ t. Ok (b ∷ t)) ≡ Ok text → Found (suc k) (b ∷ bs) text
behind short long k b bs text (Ok t) high more e =
    let f = more t refl in
    let is : b ∷ t ≡ text = ok_is (b ∷ t) text e in
    subst (Found (suc k) (b ∷ bs)) is (record { few = omega (arith, f.few); ends = EndsLeb-cons b t high f.ends; front = ap (λ (xs : List ℕ). b ∷ xs) f.front })
behind short long k b bs text (Err f) high more e = absurd (not_both f text e)

pub leb_found : (short long : BaseFault) (k : ℕ) (bytes text : List ℕ) → leb_in short long k bytes ≡ Ok text → Found k bytes text
leb_found short long zero bytes text e = absurd (not_both long text e)
leb_found short long (suc k) [] text e = absurd (not_both short text e)
leb_found short long (suc k) (b ∷ bs) text e =
    elim (cases_lt b 128) [
      | inl low ↦
          let is : b ∷ [] ≡ text = ok_is (b ∷ []) text (rw (lt-ltb b 128 low) at e) in
          subst (Found (suc k) (b ∷ bs)) is (record { few = omega arith; ends = low; front = refl })
      | inr high ↦ behind short long k b bs text (leb_in short long k bs) high (λ t. leb_found short long k bs t) (rw (le-ltb b 128 high) at e)
    ]

pub leb_again : (short long : BaseFault) (k : ℕ) (text rest : List ℕ) → length text ≤ k → EndsLeb text → leb_in short long k (text ++ rest) ≡ Ok text
leb_again short long k [] rest few ends = absurd ends
leb_again short long zero (b ∷ bs) rest few ends = absurd (omega (arith, few))
leb_again short long (suc k) (b ∷ []) rest few ends = rw (lt-ltb b 128 ends) refl
leb_again short long (suc k) (b ∷ c ∷ bs) rest few ends = rw (le-ltb b 128 ends.0, leb_again short long k (c ∷ bs) rest (omega (arith, few)) ends.1) refl

-- why nothing is read
pub data Unfound (short long : BaseFault) (k : ℕ) (bytes : List ℕ) (e : BaseFault) : Type 0 where
  ByEnd : length bytes < k → GoesOn bytes → e ≡ short → Unfound short long k bytes e
  ByLength : k ≤ length bytes → GoesOn (take k bytes) → e ≡ long → Unfound short long k bytes e

fails_behind : (short long : BaseFault) (k b : ℕ) (bs : List ℕ) (e : BaseFault) → 128 ≤ b → Unfound short long k bs e → Unfound short long (suc k) (b ∷ bs) e
fails_behind short long k b bs e high (ByEnd few goes is) = ByEnd (omega (arith, few)) (high, goes) is
fails_behind short long k b bs e high (ByLength many goes is) = ByLength (omega (arith, many)) (high, goes) is

fails_first : (b : ℕ) (e : BaseFault) (read : Result (List ℕ) BaseFault) → (read >>= λ t. Ok (b ∷ t)) ≡ Err e → read ≡ Err e
fails_first b e (Ok t) h = absurd (not_both e (b ∷ t) (sym h))
fails_first b e (Err f) h = ap Err (err_is f e h)

pub leb_fails : (short long : BaseFault) (k : ℕ) (bytes : List ℕ) (e : BaseFault) → leb_in short long k bytes ≡ Err e → Unfound short long k bytes e
leb_fails short long zero bytes e h = ByLength (omega arith) tt (sym (err_is long e h))
leb_fails short long (suc k) [] e h = ByEnd (omega arith) tt (sym (err_is short e h))
leb_fails short long (suc k) (b ∷ bs) e h =
    elim (cases_lt b 128) [
      | inl low ↦ absurd (not_both e (b ∷ []) (sym (rw (lt-ltb b 128 low) at h)))
      | inr high ↦ fails_behind short long k b bs e high (leb_fails short long k bs e (fails_first b e (leb_in short long k bs) (rw (le-ltb b 128 high) at h)))
    ]

-- where something is read, some byte among the first is below 128
no_number : (k i : ℕ) (bytes text : List ℕ) → Found k bytes text → GoesOn (take i bytes) → length text ≤ i → ⊥
no_number k i bytes text f goes few = ends_here text (drop (length text) bytes) i f.ends (rw f.front at goes) few
  where
    ends_here : (text rest : List ℕ) (i : ℕ) → EndsLeb text → GoesOn (take i (text ++ rest)) → length text ≤ i → ⊥
    ends_here [] rest i ends goes few = ends
    ends_here (b ∷ bs) rest zero ends goes few = omega (arith, few)
    ends_here (b ∷ []) rest (suc i) ends goes few = omega (arith, goes.0, ends)
    ends_here (b ∷ c ∷ bs) rest (suc i) ends goes few = ends_here (c ∷ bs) rest i ends.1 goes.1 (omega (arith, few))

found_length : (at : ℕ) (bytes text : List ℕ) → 0 < length text → drop at bytes ≡ text ++ drop (length text) (drop at bytes) → at + length text ≤ length bytes
found_length at bytes text some e =
    omega (arith, some, ap length e, length-append text (drop (length text) (drop at bytes)), length-drop at bytes)

bad_at : (bytes : List ℕ) (at : ℕ) (e : BaseFault) → Unfound (Short at) (LongLeb (at + 4)) 5 (drop at bytes) e → BadLeb bytes at e
bad_at bytes at e (ByEnd few goes is) = Ends (omega (arith, few, length-drop at bytes)) goes is
bad_at bytes at e (ByLength many goes is) = Long (omega (arith, many, length-drop at bytes)) goes is

clean_at : (bytes text : List ℕ) (at : ℕ) (e : BaseFault) → Found 5 (drop at bytes) text → BadLeb bytes at e → ⊥
clean_at bytes text at e f (Ends few goes is) =
    no_number 5 (length (drop at bytes)) (drop at bytes) text f (rw (take_all (length (drop at bytes)) (drop at bytes) (omega arith)) goes)
    (omega (arith, ap length f.front, length-append text (drop (length text) (drop at bytes))))
clean_at bytes text at e f (Long many goes is) = no_number 5 5 (drop at bytes) text f goes f.few

pub is_leb : (bytes : List ℕ) (at : ℕ) → Decides (IsLebAt bytes at) (BadLeb bytes at) (leb_at bytes at)
is_leb bytes at = record {
  found = λ text e.
      let f = leb_found (Short at) (LongLeb (at + 4)) 5 (drop at bytes) text e in
      record {
        is = record { few = f.few; ends = f.ends };
        inside = found_length at bytes text (some_byte text f.ends) f.front;
        here = ap (take (length text)) f.front ∙ take_at text (drop (length text) (drop at bytes)) (length text) refl;
      };
  again = λ text p. ap (leb_in (Short at) (LongLeb (at + 4)) 5) (sym (take-append-drop (length text) (drop at bytes)) ∙ ap (λ (xs : List ℕ). xs ++ drop (length text) (drop at bytes)) p.here)
      ∙ leb_again (Short at) (LongLeb (at + 4)) 5 text (drop (length text) (drop at bytes)) p.is.few p.is.ends;
  fault = λ e h. bad_at bytes at e (leb_fails (Short at) (LongLeb (at + 4)) 5 (drop at bytes) e h);
  clean = λ text e h b. clean_at bytes text at e (leb_found (Short at) (LongLeb (at + 4)) 5 (drop at bytes) text h) b;
}

abbrev pair : {A : Type 0} → A → ℕ → A × ℕ
pair a n = (a, n)

pair_is : {A : Type 0} (r : A × ℕ) (a : A) (n : ℕ) → r.0 ≡ a → r.1 ≡ n → r ≡ pair a n
pair_is {A} r a n p q = ap (λ (x : A). pair x r.1) p ∙ ap (λ (m : ℕ). pair a m) q

pub is_uleb : (bytes : List ℕ) (at : ℕ) → Decides (IsUlebAt bytes at) (BadLeb bytes at) (uleb_at bytes at)
unfolding uleb_at
is_uleb bytes at = same (uleb_at bytes at) (then (leb_at bytes at) (λ text. Ok (pair (uleb_value text) (at + length text))) (is_leb bytes at) (λ text h. pure (uleb_value text, at + length text)))
    (λ y p. record { text = p.0; stands = p.1; value = ap (λ (r : ℕ × ℕ). r.0) p.2; behind = ap (λ (r : ℕ × ℕ). r.1) p.2 })
    (λ y p. (p.text, p.stands, pair_is y (uleb_value p.text) (at + length p.text) p.value p.behind))
    (λ e p. elim p [ inl a ↦ a | inr q ↦ absurd q.2 ])
    (λ e p. inl p)

pub is_sleb : (bytes : List ℕ) (at : ℕ) → Decides (IsSlebAt bytes at) (BadLeb bytes at) (sleb_at bytes at)
unfolding sleb_at
is_sleb bytes at = same (sleb_at bytes at) (then (leb_at bytes at) (λ text. Ok (pair (sleb_value text) (at + length text))) (is_leb bytes at) (λ text h. pure (sleb_value text, at + length text)))
    (λ y p. record { text = p.0; stands = p.1; value = ap (λ (r : ℤ × ℕ). r.0) p.2; behind = ap (λ (r : ℤ × ℕ). r.1) p.2 })
    (λ y p. (p.text, p.stands, pair_is y (sleb_value p.text) (at + length p.text) p.value p.behind))
    (λ e p. elim p [ inl a ↦ a | inr q ↦ absurd q.2 ])
    (λ e p. inl p)
