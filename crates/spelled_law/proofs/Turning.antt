-- Members in their order, as pairs of a directory change them one after another.
use Rattle.std.proofs.Common.{◌≡◌, ◌<◌, ◌⊎◌, inl, inr, ℕ, zero, suc, ◌+◌, ◌*◌, Bool, true, false, cond, eqb, List, [], ◌∷◌, ◌++◌, length, Option, Some, None, Result, refl, sym, ap, subst, ◌∙◌, arith, true≢false}
use Rattle.std.specs.List.{AllByRecursion}
use Rattle.std.specs.Option.{option_map}
use Rattle.std.proofs.lemmas.Bool.{eqb-true, eq-eqb, lt-ltb}
use Rattle.dex_base.specs.Decides.{Each}
use Rattle.dex_base.specs.Word.{Is32}
use Rattle.dex_pools.specs.Finds.{Ascends}
use Rattle.dex_defs.specs.Annotations.{pair_below, offset_for}
use Rattle.dex_read.specs.declared.class_data.Listed.{Listed}
use Rattle.dex_read.specs.ClassData.{place_in}
use Rattle.dex_read.specs.Steps.{change_at, steps}
use Rattle.file_laws.specs.Founds.{Founds}
use Rattle.file_laws.proofs.Founding.{weaker, done, next}

-- ---- members beside their entries, before and behind a change

abbrev pub Over : {X : Type 0} → (Listed → X → X → Type 0) → List Listed → List X → List X → Type 0
Over R [] [] [] = Unit {0}
Over R [] [] (y ∷ ys) = ⊥
Over R [] (x ∷ xs) ys = ⊥
Over R (e ∷ es) [] ys = ⊥
Over R (e ∷ es) (x ∷ xs) [] = ⊥
Over R (e ∷ es) (x ∷ xs) (y ∷ ys) = R e x y × Over R es xs ys

pub over_then : {X : Type 0} (R S T : Listed → X → X → Type 0) → ((e : Listed) (x t y : X) → R e x t → S e t y → T e x y)
    → (es : List Listed) (xs ts ys : List X) → Over R es xs ts → Over S es ts ys → Over T es xs ys
over_then R S T to [] [] [] [] h g = tt
over_then R S T to [] [] [] (y ∷ ys) h g = absurd g
over_then R S T to [] [] (t ∷ ts) ys h g = absurd h
over_then R S T to [] (x ∷ xs) ts ys h g = absurd h
over_then R S T to (e ∷ es) [] ts ys h g = absurd h
over_then R S T to (e ∷ es) (x ∷ xs) [] ys h g = absurd h
over_then R S T to (e ∷ es) (x ∷ xs) (t ∷ ts) [] h g = absurd g
over_then R S T to (e ∷ es) (x ∷ xs) (t ∷ ts) (y ∷ ys) h g = (to e x t y h.0 g.0, over_then R S T to es xs ts ys h.1 g.1)

-- members beside their entries
abbrev pub Along : {X : Type 0} → (Listed → X → Type 0) → List Listed → List X → Type 0
Along R [] [] = Unit {0}
Along R [] (x ∷ xs) = ⊥
Along R (e ∷ es) [] = ⊥
Along R (e ∷ es) (x ∷ xs) = R e x × Along R es xs

pub along_beside : {X : Type 0} (R : Listed → X → Type 0) (es : List Listed) (xs : List X) → Along R es xs → length xs ≡ length es
along_beside R [] [] h = refl
along_beside R [] (x ∷ xs) h = absurd h
along_beside R (e ∷ es) [] h = absurd h
along_beside R (e ∷ es) (x ∷ xs) h = ap suc (along_beside R es xs h.1)

pub along_over : {X : Type 0} (R Q : Listed → X → Type 0) (T : Listed → X → X → Type 0) → ((e : Listed) (x y : X) → R e x → T e x y → Q e y)
    → (es : List Listed) (xs ys : List X) → Along R es xs → Over T es xs ys → Along Q es ys
along_over R Q T to [] [] [] h g = tt
along_over R Q T to [] [] (y ∷ ys) h g = absurd g
along_over R Q T to [] (x ∷ xs) ys h g = absurd h
along_over R Q T to (e ∷ es) [] ys h g = absurd h
along_over R Q T to (e ∷ es) (x ∷ xs) [] h g = absurd g
along_over R Q T to (e ∷ es) (x ∷ xs) (y ∷ ys) h g = (to e x y h.0 g.0, along_over R Q T to es xs ys h.1 g.1)

pub along_split : {X : Type 0} (R : Listed → X → Type 0) (front bs : List Listed) (ys : List X) → Along R (front ++ bs) ys → (xs : List X) × (zs : List X) × (ys ≡ xs ++ zs) × Along R front xs × Along R bs zs
along_split R [] bs ys h = ([], ys, refl, tt, h)
along_split R (a ∷ front) bs [] h = absurd h
along_split R (a ∷ front) bs (y ∷ ys) h = let r = along_split R front bs ys h.1 in (y ∷ r.0, r.1, ap (λ zs. y ∷ zs) r.2, (h.0, r.3), r.4)

-- as many members as entries
abbrev pub Beside : {X : Type 0} → List Listed → List X → Type 0
Beside es xs = length xs ≡ length es

pub over_same : {X : Type 0} (R : Listed → X → X → Type 0) → ((e : Listed) (x : X) → R e x x) → (es : List Listed) (xs : List X) → Beside es xs → Over R es xs xs
over_same R is [] [] h = tt
over_same R is [] (x ∷ xs) h = absurd cc
over_same R is (e ∷ es) [] h = absurd cc
over_same R is (e ∷ es) (x ∷ xs) h = (is e x, over_same R is es xs (omega (arith, h)))

pub over_beside : {X : Type 0} (R : Listed → X → X → Type 0) (es : List Listed) (xs ys : List X) → Over R es xs ys → Beside es ys
over_beside R [] [] [] h = refl
over_beside R [] [] (y ∷ ys) h = absurd h
over_beside R [] (x ∷ xs) ys h = absurd h
over_beside R (e ∷ es) [] ys h = absurd h
over_beside R (e ∷ es) (x ∷ xs) [] h = absurd h
over_beside R (e ∷ es) (x ∷ xs) (y ∷ ys) h = ap suc (over_beside R es xs ys h.1)

-- ---- entries of different numbers

abbrev pub Differs : ℕ → List Listed → Type 0
Differs number es = AllByRecursion (λ e. e.number ≡ number → ⊥) es

abbrev pub Distinct : List Listed → Type 0
Distinct [] = Unit {0}
Distinct (e ∷ es) = Differs e.number es × Distinct es

-- ---- one change

abbrev pub One : {X : Type 0} → ℕ → (X → X) → Listed → X → X → Type 0
One number change e x y = ((e.number ≡ number) × (y ≡ change x)) ⊎ ((e.number ≡ number → ⊥) × (y ≡ x))

untouched : {X : Type 0} (number : ℕ) (change : X → X) (es : List Listed) (xs : List X) → Beside es xs → Differs number es → Over (One number change) es xs xs
untouched number change [] [] h d = tt
untouched number change [] (x ∷ xs) h d = absurd cc
untouched number change (e ∷ es) [] h d = absurd cc
untouched number change (e ∷ es) (x ∷ xs) h d = (inr (d.0, refl), untouched number change es xs (omega (arith, h)) d.1)

first_place : (k : ℕ) → Some 0 ≡ Some k → k ≡ 0
first_place k h = cc

later_place : (o : Option ℕ) (k : ℕ) → option_map suc o ≡ Some k → (j : ℕ) × (o ≡ Some j) × (k ≡ suc j)
later_place None k h = absurd cc
later_place (Some j) k h = (j, refl, cc)

by_first : {X : Type 0} (number : ℕ) (change : X → X) (e : Listed) (es : List Listed) (x : X) (xs : List X) (place : ℕ) (b : Bool) → Beside es xs → Differs e.number es
    → ((k : ℕ) → place_in number es ≡ Some k → Over (One number change) es xs (change_at change k xs))
    → eqb e.number number ≡ b → cond b (Some 0) (option_map suc (place_in number es)) ≡ Some place → Over (One number change) (e ∷ es) (x ∷ xs) (change_at change place (x ∷ xs))
by_first number change e es x xs place true many d rest b h =
    let same : e.number ≡ number = eqb-true e.number number b in
    subst (λ (k : ℕ). Over (One number change) (e ∷ es) (x ∷ xs) (change_at change k (x ∷ xs))) (sym (first_place place h))
    (inl (same, refl), untouched number change es xs many (subst (λ (n : ℕ). Differs n es) same d))
by_first number change e es x xs place false many d rest b h =
    let later = later_place (place_in number es) place h in
    subst (λ (k : ℕ). Over (One number change) (e ∷ es) (x ∷ xs) (change_at change k (x ∷ xs))) (sym later.2)
    (inr ((λ is. true≢false (sym (eq-eqb e.number number is) ∙ b)), refl), rest later.0 later.1)

pub one_turned : {X : Type 0} (number : ℕ) (change : X → X) (es : List Listed) (xs : List X) (place : ℕ) → Beside es xs → Distinct es → place_in number es ≡ Some place
    → Over (One number change) es xs (change_at change place xs)
one_turned number change [] xs place many d h = absurd cc
one_turned number change (e ∷ es) [] place many d h = absurd cc
one_turned number change (e ∷ es) (x ∷ xs) place many d h =
    let fewer : Beside es xs = omega (arith, many) in
    by_first number change e es x xs place (eqb e.number number) fewer d.0 (λ k at. one_turned number change es xs k fewer d.1 at) refl h

-- ---- pairs in the order of their numbers

abbrev pub PairsRise : ℕ → ℕ → List (ℕ × ℕ) → Type 0
PairsRise place before [] = Unit {0}
PairsRise place before (p ∷ ps) = ((place ≡ 0) ⊎ (before < p.0)) × PairsRise (suc place) p.0 ps

behind_first : (place before number : ℕ) → (suc place ≡ 0) ⊎ (before < number) → before < number
behind_first place before number (inl e) = absurd cc
behind_first place before number (inr h) = h

lower : (low high : ℕ) (ps : List (ℕ × ℕ)) → low < high → AllByRecursion (λ q. high < q.0) ps → AllByRecursion (λ q. low < q.0) ps
lower low high [] less h = tt
lower low high (p ∷ ps) less h = (omega (arith, less, h.0), lower low high ps less h.1)

above : (place before : ℕ) (ps : List (ℕ × ℕ)) → PairsRise (suc place) before ps → AllByRecursion (λ q. before < q.0) ps
above place before [] h = tt
above place before (p ∷ ps) h = let less = behind_first place before p.0 h.0 in (less, lower before p.0 ps less (above (suc place) p.0 ps h.1))

pub pairs_ascend : (place before : ℕ) (ps : List (ℕ × ℕ)) → PairsRise place before ps → Ascends pair_below ps
pairs_ascend place before [] h = tt
pairs_ascend place before (p ∷ []) h = tt
pairs_ascend place before (p ∷ q ∷ ps) h = (lt-ltb p.0 q.0 (behind_first place p.0 q.0 h.1.0), pairs_ascend (suc place) p.0 (q ∷ ps) h.1)

-- ---- what pairs do to a member

abbrev pub Absent : ℕ → List (ℕ × ℕ) → Type 0
Absent number ps = AllByRecursion (λ p. p.0 ≡ number → ⊥) ps

absent_above : (number before : ℕ) (ps : List (ℕ × ℕ)) → number ≡ before → AllByRecursion (λ q. before < q.0) ps → Absent number ps
absent_above number before [] same h = tt
absent_above number before (p ∷ ps) same h = ((λ is. omega (arith, is, same, h.0)), absent_above number before ps same h.1)

pub no_offset : (number : ℕ) (ps : List (ℕ × ℕ)) → Absent number ps → offset_for number ps ≡ 0
no_offset number [] h = refl
no_offset number (p ∷ ps) h = by_test (eqb p.0 number) (no_offset number ps h.1) refl
  where
    by_test : (b : Bool) → offset_for number ps ≡ 0 → eqb p.0 number ≡ b → cond b p.1 (offset_for number ps) ≡ 0
    by_test true rest e = absurd (h.0 (eqb-true p.0 number e))
    by_test false rest e = rest

offset_here : (number : ℕ) (p : ℕ × ℕ) (ps : List (ℕ × ℕ)) → p.0 ≡ number → offset_for number (p ∷ ps) ≡ p.1
offset_here number p ps is = ap (λ (b : Bool). cond b p.1 (offset_for number ps)) (eq-eqb p.0 number is)

offset_behind : (number : ℕ) (p : ℕ × ℕ) (ps : List (ℕ × ℕ)) → (p.0 ≡ number → ⊥) → offset_for number (p ∷ ps) ≡ offset_for number ps
offset_behind number p ps other = by_test (eqb p.0 number) refl
  where
    by_test : (b : Bool) → eqb p.0 number ≡ b → cond b p.1 (offset_for number ps) ≡ offset_for number ps
    by_test true e = absurd (other (eqb-true p.0 number e))
    by_test false e = refl

module _ {X M : Type 0} (set : M → X → X) (AreOf : ℕ → M → Type 0) where
  -- a member that no pair names stays; another one gets what stands at the offset of its pair
  abbrev pub Turned : List (ℕ × ℕ) → Listed → X → X → Type 0
  Turned ps e x y = ((y ≡ x) × Absent e.number ps) ⊎ ((m : M) × (y ≡ set m x) × AreOf (offset_for e.number ps) m × (Absent e.number ps → ⊥))

  turned_then : (p : ℕ × ℕ) (ps : List (ℕ × ℕ)) (m : M) → AreOf p.1 m → AllByRecursion (λ q. p.0 < q.0) ps → (e : Listed) (x t y : X) → One p.0 (set m) e x t → Turned ps e t y → Turned (p ∷ ps) e x y
  turned_then p ps m are up e x t y (inl a) (inl b) =
      inr (m, b.0 ∙ a.1, subst (λ n. AreOf n m) (sym (offset_here e.number p ps (sym a.0))) are, λ none. none.0 (sym a.0))
  turned_then p ps m are up e x t y (inl a) (inr b) = absurd (b.3 (absent_above e.number p.0 ps a.0 up))
  turned_then p ps m are up e x t y (inr a) (inl b) = inl (b.0 ∙ a.1, ((λ is. a.0 (sym is)), b.1))
  turned_then p ps m are up e x t y (inr a) (inr b) =
      inr (b.0, b.1 ∙ ap (set b.0) a.1, subst (λ n. AreOf n b.0) (sym (offset_behind e.number p ps (λ is. a.0 (sym is)))) b.2, λ none. b.3 none.1)

  module _ (bytes : List ℕ) (es : List Listed) (at : ℕ) where
    -- one pair, and what it changes
    pub record IsStep (i : ℕ) (s r : List X × (ℕ × ℕ)) : Type 0 where
      pub pair : ℕ × ℕ
      pub number : Is32 bytes (at + 8 * i) pair.0
      pub offset : Is32 bytes (at + 8 * i + 4) pair.1
      pub order : (i ≡ 0) ⊎ (s.1.0 < pair.0)
      pub place : ℕ
      pub found : place_in pair.0 es ≡ Some place
      pub marks : M
      pub are : AreOf pair.1 marks
      pub is : r.0 ≡ change_at (set marks) place s.0
      pub on : r.1.0 ≡ pair.0

    -- so many pairs
    pub record AreTurned (from n : ℕ) (s r : List X × (ℕ × ℕ)) : Type 0 where
      pub pairs : List (ℕ × ℕ)
      pub many : length pairs ≡ n
      pub stand : Each (λ i pair. Is32 bytes (at + 8 * i) pair.0 × Is32 bytes (at + 8 * i + 4) pair.1) from pairs
      pub rise : PairsRise from s.1.0 pairs
      pub defined : AllByRecursion (λ pair. (place : ℕ) × (place_in pair.0 es ≡ Some place)) pairs
      pub turned : Over (Turned pairs) es s.0 r.0

    module _ {F : Type 0} (f : ℕ → List X × (ℕ × ℕ) → Result (List X × (ℕ × ℕ)) F) (each : (i : ℕ) (s : List X × (ℕ × ℕ)) → Founds (IsStep i s) (f i s)) (apart : Distinct es) where
      pub founds_turned : (from n : ℕ) (s : List X × (ℕ × ℕ)) → Beside es s.0 → Founds (AreTurned from n s) (steps f from n s)
      founds_turned from zero s many = weaker (steps f from zero s) (done s) (λ y e. subst (AreTurned from 0 s) (sym e) (record {
        pairs = [];
        many = refl;
        stand = tt;
        rise = tt;
        defined = tt;
        turned = over_same (Turned []) (λ e x. inl (refl, tt)) es s.0 many;
      }))
      founds_turned from (suc n) s many =
          let over : (t : List X × (ℕ × ℕ)) (h : IsStep from s t) → Over (One h.pair.0 (set h.marks)) es s.0 t.0
          = λ t h. subst (λ ts. Over (One h.pair.0 (set h.marks)) es s.0 ts) (sym h.is) (one_turned h.pair.0 (set h.marks) es s.0 h.place many apart h.found) in
          weaker (steps f from (suc n) s)
          (next (each from s) (λ t h. founds_turned (suc from) n t (over_beside (One h.pair.0 (set h.marks)) es s.0 t.0 (over t h))))
          (λ y q. let t = q.0 in let h = q.1 in let rest = q.2 in
          let rise : PairsRise (suc from) h.pair.0 rest.pairs = subst (λ n. PairsRise (suc from) n rest.pairs) h.on rest.rise in
          record {
            pairs = h.pair ∷ rest.pairs;
            many = ap suc rest.many;
            stand = ((h.number, h.offset), rest.stand);
            rise = (h.order, rise);
            defined = ((h.place, h.found), rest.defined);
            turned = over_then (One h.pair.0 (set h.marks)) (Turned rest.pairs) (Turned (h.pair ∷ rest.pairs))
                (turned_then h.pair rest.pairs h.marks h.are (above from h.pair.0 rest.pairs rise)) es s.0 t.0 y.0 (over t h) rest.turned;
          })

-- what a member without annotations becomes by pairs
pub settled : {X M : Type 0} (set : M → X → X) (AreOf : ℕ → M → Type 0) (blank : M) (ps : List (ℕ × ℕ)) (e : Listed) (base x y : X) → x ≡ base → set blank base ≡ base → AreOf 0 blank → Turned set AreOf ps e x y
    → (m : M) × (y ≡ set m base) × AreOf (offset_for e.number ps) m
settled set AreOf blank ps e base x y is same none (inl h) = (blank, h.0 ∙ is ∙ sym same, subst (λ n. AreOf n blank) (sym (no_offset e.number ps h.1)) none)
settled set AreOf blank ps e base x y is same none (inr h) = (h.0, h.1 ∙ ap (set h.0) is, h.2)
