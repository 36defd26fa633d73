-- Numbers picked one after the other.
use Rattle.std.proofs.Common.{◌≡◌, ◌⊎◌, inl, inr, ℕ, ◌+◌, ◌<◌, ◌≤◌, Bool, true, false, List, [], ◌∷◌, ◌++◌, length, Contains, refl, sym, ap, ◌∙◌, subst, arith}
use Rattle.std.specs.Prelude.{if◌then◌else◌}
use Rattle.std.specs.List.{filter, list_any}
use Rattle.std.proofs.lemmas.Bool.{cases_lt, cases_eq, false≢true}
use Rattle.std.proofs.lemmas.List.{get_or_past}
use Rattle.std.proofs.lemmas.List.Elements.{Contains-append_left, Contains-append_right, Contains-append_cases}
use Rattle.body_graph.proofs.Members.{none, first, split}
use Rattle.walk_marks.specs.Walks.{is_on}
use Rattle.insn_set.specs.declared.form.Insn.{Insn}
use Rattle.live_regs.specs.declared.table.Live.{Live}
use Rattle.compact.specs.Clashes.{is_hit, hits_of, AreNames}

pub at_end : (xs : List ℕ) (x : ℕ) → Contains (xs ++ x ∷ []) x
at_end xs x = Contains-append_right xs (x ∷ []) x (first x [])

pub in_more : (xs : List ℕ) (x y : ℕ) → Contains (xs ++ x ∷ []) y → Contains xs y ⊎ (y ≡ x)
in_more xs x y c = elim (Contains-append_cases xs (x ∷ []) y c) [ inl d ↦ inl d | inr d ↦ elim (split x [] y d) [ inl e ↦ inr (sym e) | inr n ↦ absurd (none y n) ] ]

-- the numbers below a bound that pass a test
pub record Named (test : ℕ → Bool) (upto : ℕ) (names : List ℕ) : Type 0 where
  pub low : (r : ℕ) → Contains names r → r < upto
  pub pass : (r : ℕ) → Contains names r → test r ≡ true
  pub all : (r : ℕ) → r < upto → test r ≡ true → Contains names r

pub named_none : (test : ℕ → Bool) (names : List ℕ) → names ≡ [] → Named test 0 names
named_none test names e = record {
  low = λ r c. absurd (none r (subst (λ (l : List ℕ). Contains l r) e c));
  pass = λ r c. absurd (none r (subst (λ (l : List ℕ). Contains l r) e c));
  all = λ r lt. absurd (omega (arith, lt));
}

pub named_skip : (test : ℕ → Bool) (upto next : ℕ) (names : List ℕ) → next ≡ upto + 1 → Named test upto names → test upto ≡ false → Named test next names
named_skip test upto next names n was e = record {
  low = λ r c. omega (arith, n, was.low r c);
  pass = was.pass;
  all = λ r lt h. elim (cases_eq r upto) [ inl i ↦ absurd (false≢true (sym e ∙ sym (ap test i) ∙ h)) | inr ne ↦ was.all r (omega (arith, lt, n, ne)) h ];
}

pub named_more : (test : ℕ → Bool) (upto next x : ℕ) (names : List ℕ) → next ≡ upto + 1 → x ≡ upto → Named test upto names → test upto ≡ true → Named test next (names ++ x ∷ [])
named_more test upto next x names n is was e = record {
  low = λ r c. elim (in_more names x r c) [ inl d ↦ omega (arith, n, was.low r d) | inr i ↦ omega (arith, n, is, i) ];
  pass = λ r c. elim (in_more names x r c) [ inl d ↦ was.pass r d | inr i ↦ ap test (i ∙ is) ∙ e ];
  all = λ r lt h. elim (cases_eq r upto) [ inl i ↦ subst (λ k. Contains (names ++ x ∷ []) k) (is ∙ sym i) (at_end names x) | inr ne ↦ Contains-append_left names (x ∷ []) r (was.all r (omega (arith, lt, n, ne)) h) ];
}

pub named_all : (used : List Bool) (upto : ℕ) (names : List ℕ) → length used ≤ upto → Named (is_on used) upto names → AreNames used names
named_all used upto names le was r = (was.pass r, λ h. elim (cases_lt r (length used)) [ inl lt ↦ was.all r (omega (arith, lt, le)) h | inr past ↦ absurd (false≢true (sym (get_or_past used r false past) ∙ h)) ])

pub named_step : (test : ℕ → Bool) (upto x : ℕ) (names new : List ℕ) → x ≡ upto → Named test upto names → new ≡ (if test upto then names ++ x ∷ [] else names) → Named test (upto + 1) new
named_step test upto x names new is was e = by (test upto) refl e
  where
    by : (t : Bool) → t ≡ test upto → new ≡ (if t then names ++ x ∷ [] else names) → Named test (upto + 1) new
    by true h i = subst (λ (l : List ℕ). Named test (upto + 1) l) (sym i) (named_more test upto (upto + 1) x names refl is was (sym h))
    by false h i = subst (λ (l : List ℕ). Named test (upto + 1) l) (sym i) (named_skip test upto (upto + 1) names refl was (sym h))

-- nothing passes a test that fails everywhere
pub filter_none : (test : ℕ → Bool) (xs : List ℕ) → ((x : ℕ) → test x ≡ false) → filter test xs ≡ []
filter_none test [] h = refl
filter_none test (x ∷ xs) h = ap (λ t. if t then x ∷ filter test xs else filter test xs) (h x) ∙ filter_none test xs h

pub no_hits : (live : Live) (insns : List Insn) (names positions : List ℕ) → length positions ≡ 0 → hits_of live insns names positions ≡ []
no_hits live insns names [] e = filter_none (λ s. list_any (is_hit live insns s) []) names (λ x. refl)
no_hits live insns names (p ∷ ps) e = absurd (omega (arith, e))
