-- Tables of marks of some numbers.
use Rattle.std.proofs.Common.{◌≡◌, ℕ, zero, suc, ◌+◌, ◌<◌, ◌≤◌, Bool, true, false, nat_eq, List, [], ◌∷◌, ◌++◌, length, take, replicate, get_or, inl, inr, true≢false, refl, sym, ap, subst, ◌∙◌, arith, ltb-true, lt-ltb}
use Rattle.std.specs.Prelude.{◌&&◌, ◌||◌, not, cond, nat_lt, slice_index_or, slice_set}
use Rattle.std.specs.List.{list_any}
use Rattle.std.proofs.lemmas.List.{take_more, take_all}
use Rattle.std.proofs.lemmas.Bool.{cases_lt}
use Rattle.program_model.specs.declared.program.Program.{Program}
use Rattle.class_defs.proofs.Positions.{same_test, number_test, number_of}
use Rattle.class_defs.proofs.WellFormed.{and_left, and_right}
use Rattle.dalvik_defs.specs.Names.{text_eq, is_array}
use Rattle.dalvik_defs.specs.Naming.{type_at}
use Rattle.dalvik_lookups.specs.declared.types.Kind.{Kind}
use Rattle.dalvik_lookups.specs.declared.types.Types.{Types}
use Rattle.dalvik_lookups.specs.declared.lookups.Names.{Names}
use Rattle.dalvik_lookups.specs.Views.{names_of, name_at, type_text, IsKind}
use Rattle.dalvik_lookups.specs.Tables.{kind_in, is_plain, HasNames}
use Rattle.dalvik_lookups.specs.Reached.{is_among, has_base, has_descriptor, AreMarks, AreBaseMarks, AreTypeMarks, MarksMore}
use Rattle.dalvik_lookups.proofs.Interned.{text_same, text_sound}
use Rattle.dalvik_lookups.proofs.Descriptors.{same_kind}
use Rattle.dalvik_lookups.proofs.Placed.{not_zero}

-- ---- a mark more

other_at : (l : List Bool) (x n : ℕ) → (n ≡ x → ⊥) → slice_index_or (slice_set l x true) n false ≡ slice_index_or l n false
other_at [] x n h = refl
other_at (b ∷ bs) zero zero h = absurd (h refl)
other_at (b ∷ bs) zero (suc n) h = refl
other_at (b ∷ bs) (suc x) zero h = refl
other_at (b ∷ bs) (suc x) (suc n) h = other_at bs x n (λ e. h (ap suc e))

marked_now : (l : List Bool) (x : ℕ) → x < length l → slice_index_or (slice_set l x true) x false ≡ true
marked_now [] x lt = absurd (omega (arith, lt))
marked_now (b ∷ bs) zero lt = refl
marked_now (b ∷ bs) (suc x) lt = marked_now bs x (omega (arith, lt))

past_at : (l : List Bool) (n : ℕ) → length l ≤ n → slice_index_or l n false ≡ false
past_at [] n le = refl
past_at (b ∷ bs) zero le = absurd (omega (arith, le))
past_at (b ∷ bs) (suc n) le = past_at bs n (omega (arith, le))

set_size : (l : List Bool) (x : ℕ) → length (slice_set l x true) ≡ length l
set_size [] x = refl
set_size (b ∷ bs) zero = refl
set_size (b ∷ bs) (suc x) = ap suc (set_size bs x)

unless_lt : (n k : ℕ) → k ≤ n → nat_lt n k ≡ false
unless_lt n k le = by_test (nat_lt n k) refl
  where
    by_test : (b : Bool) → nat_lt n k ≡ b → nat_lt n k ≡ false
    by_test true e = let lt = ltb-true n k e in absurd (omega (arith, le, lt))
    by_test false e = e

set_at : (l : List Bool) (x n : ℕ) → slice_index_or (slice_set l x true) n false ≡ (slice_index_or l n false || (nat_lt n (length l) && nat_eq n x))
set_at l x n = by_test (nat_eq n x) refl
  where
    kept : (a b : Bool) → a ≡ (a || (b && false))
    kept true b = refl
    kept false true = refl
    kept false false = refl

    full : (a : Bool) → (a || true) ≡ true
    full true = refl
    full false = refl

    by_test : (b : Bool) → nat_eq n x ≡ b → slice_index_or (slice_set l x true) n false ≡ (slice_index_or l n false || (nat_lt n (length l) && nat_eq n x))
    by_test false e =
        other_at l x n (λ h. true≢false (sym (number_test n x h) ∙ e)) ∙ kept (slice_index_or l n false) (nat_lt n (length l))
        ∙ ap (λ b. slice_index_or l n false || (nat_lt n (length l) && b)) (sym e)
    by_test true e = elim (cases_lt n (length l)) [
      | inl lt ↦
          ap (λ m. slice_index_or (slice_set l m true) n false) (sym (number_of n x e)) ∙ marked_now l n lt
          ∙ sym (ap (λ b. slice_index_or l n false || (b && nat_eq n x)) (lt-ltb n (length l) lt) ∙ ap (λ b. slice_index_or l n false || b) e ∙ full (slice_index_or l n false))
      | inr le ↦
          past_at (slice_set l x true) n (let z = set_size l x in omega (arith, z, le))
          ∙ sym (ap (λ b. slice_index_or l n false || (b && nat_eq n x)) (unless_lt n (length l) le) ∙ ap (λ b. b || false) (past_at l n le))
    ]

any_more : (n : ℕ) (xs : List ℕ) (x : ℕ) → list_any (nat_eq n) (xs ++ x ∷ []) ≡ (list_any (nat_eq n) xs || nat_eq n x)
any_more n [] x = off (nat_eq n x)
  where
    off : (a : Bool) → (a || false) ≡ a
    off true = refl
    off false = refl
any_more n (y ∷ ys) x = ap (λ b. nat_eq n y || b) (any_more n ys x) ∙ joined (nat_eq n y) (list_any (nat_eq n) ys) (nat_eq n x)
  where
    joined : (a b c : Bool) → (a || (b || c)) ≡ ((a || b) || c)
    joined true b c = refl
    joined false b c = refl

pub marks_none : (old : List Bool) → MarksMore old [] old
marks_none old = record { size = refl; is = λ n. off (slice_index_or old n false) (nat_lt n (length old)) }
  where
    off : (a b : Bool) → a ≡ (a || (b && false))
    off true b = refl
    off false true = refl
    off false false = refl

pub marks_step : (old mid new : List Bool) (ns : List ℕ) (i : ℕ) → i < length ns → MarksMore old (take i ns) mid → new ≡ slice_set mid (get_or ns i 0) true → MarksMore old (take (i + 1) ns) new
marks_step old mid new ns i lt m e = record {
  size = ap length e ∙ set_size mid x ∙ m.size;
  is = λ n.
      ap (λ l. slice_index_or l n false) e ∙ set_at mid x n
      ∙ ap (λ b. b || (nat_lt n (length mid) && nat_eq n x)) (m.is n)
      ∙ ap (λ k. (slice_index_or old n false || is_among (length old) (take i ns) n) || (nat_lt n k && nat_eq n x)) m.size
      ∙ merged (slice_index_or old n false) (nat_lt n (length old)) (list_any (nat_eq n) (take i ns)) (nat_eq n x)
      ∙ ap (λ b. slice_index_or old n false || (nat_lt n (length old) && b)) (sym (any_more n (take i ns) x))
      ∙ ap (λ l. slice_index_or old n false || is_among (length old) l n) (sym (take_more ns i 0 lt));
}
  where
    x : ℕ
    x = get_or ns i 0

    merged : (a b c d : Bool) → ((a || (b && c)) || (b && d)) ≡ (a || (b && (c || d)))
    merged true b c d = refl
    merged false true c d = refl
    merged false false c d = refl

pub marks_all : (old new : List Bool) (ns : List ℕ) (i : ℕ) → length ns ≤ i → MarksMore old (take i ns) new → MarksMore old ns new
marks_all old new ns i le m = subst (λ l. MarksMore old l new) (take_all i ns le) m

pub marks_made : (count : ℕ) (old new : List Bool) (ns : List ℕ) → old ≡ replicate count false → MarksMore old ns new → AreMarks count ns new
marks_made count old new ns e m = record {
  is = λ n. m.is n ∙ ap (λ b. b || is_among (length old) ns n) (ap (λ l. slice_index_or l n false) e ∙ unmarked count n) ∙ ap (λ k. is_among k ns n) (ap length e ∙ long count);
}
  where
    unmarked : (k n : ℕ) → slice_index_or (replicate k false) n false ≡ false
    unmarked zero n = refl
    unmarked (suc k) zero = refl
    unmarked (suc k) (suc n) = unmarked k n

    long : (k : ℕ) → length (replicate k false) ≡ k
    long zero = refl
    long (suc k) = ap suc (long k)

-- ---- tables of marks of types

any_snoc : {X : Type 0} (t : X → Bool) (xs : List X) (x : X) → list_any t (xs ++ x ∷ []) ≡ (list_any t xs || t x)
any_snoc t [] x = off (t x)
  where
    off : (a : Bool) → (a || false) ≡ a
    off true = refl
    off false = refl
any_snoc t (y ∷ ys) x = ap (λ b. t y || b) (any_snoc t ys x) ∙ joined (t y) (list_any t ys) (t x)
  where
    joined : (a b c : Bool) → (a || (b || c)) ≡ ((a || b) || c)
    joined true b c = refl
    joined false b c = refl

pub bases_none : (p : Program) (kinds : List Kind) (count : ℕ) (marks : List Bool) → marks ≡ replicate count false → AreBaseMarks p kinds count [] marks
bases_none p kinds count marks e = record { size = ap length e ∙ replicated count; is = λ base lt. ap (λ l. slice_index_or l base false) e ∙ unmarked count base }
  where
    unmarked : (k n : ℕ) → slice_index_or (replicate k false) n false ≡ false
    unmarked zero n = refl
    unmarked (suc k) zero = refl
    unmarked (suc k) (suc n) = unmarked k n

    replicated : (k : ℕ) → length (replicate k false) ≡ k
    replicated zero = refl
    replicated (suc k) = ap suc (replicated k)

pub bases_step : (p : Program) (kinds : List Kind) (count : ℕ) (old new : List Bool) (ns : List ℕ) (i : ℕ) → i < length ns → AreBaseMarks p kinds count (take i ns) old
    → new ≡ cond (nat_lt (get_or ns i 0) (length p.types) && nat_eq (kind_in kinds (get_or ns i 0)).depth 0) (slice_set old (kind_in kinds (get_or ns i 0)).base true) old → AreBaseMarks p kinds count (take (i + 1) ns) new
bases_step p kinds count old new ns i lt m e = record {
  size = ap length e ∙ sized (nat_lt n (length p.types) && nat_eq k.depth 0) ∙ m.size;
  is = λ base low.
      ap (λ l. slice_index_or l base false) e ∙ by_test base low (nat_lt n (length p.types)) (nat_eq k.depth 0)
      ∙ ap (λ b. b || has_base p kinds base n) (m.is base low)
      ∙ sym (ap (list_any (has_base p kinds base)) (take_more ns i 0 lt) ∙ any_snoc (has_base p kinds base) (take i ns) n);
}
  where
    n : ℕ
    n = get_or ns i 0

    k : Kind
    k = kind_in kinds n

    sized : (b : Bool) → length (cond b (slice_set old k.base true) old) ≡ length old
    sized true = set_size old k.base
    sized false = refl

    off : (a : Bool) → a ≡ (a || false)
    off true = refl
    off false = refl

    turned : (a b : ℕ) → nat_eq a b ≡ nat_eq b a
    turned a b = same_test (nat_eq a b) (nat_eq b a) (λ h. number_test b a (sym (number_of a b h))) (λ h. number_test a b (sym (number_of b a h)))

    by_test : (base : ℕ) → base < count → (b d : Bool) → slice_index_or (cond (b && d) (slice_set old k.base true) old) base false ≡ (slice_index_or old base false || (b && (d && nat_eq k.base base)))
    by_test base low true true =
        set_at old k.base base
        ∙ ap (λ b. slice_index_or old base false || (b && nat_eq base k.base)) (lt-ltb base (length old) (let z = m.size in omega (arith, z, low)))
        ∙ ap (λ b. slice_index_or old base false || b) (turned base k.base)
    by_test base low true false = off (slice_index_or old base false)
    by_test base low false d = off (slice_index_or old base false)

pub bases_all : (p : Program) (kinds : List Kind) (count : ℕ) (marks : List Bool) (ns : List ℕ) (i : ℕ) → length ns ≤ i → AreBaseMarks p kinds count (take i ns) marks → AreBaseMarks p kinds count ns marks
bases_all p kinds count marks ns i le m = subst (λ l. AreBaseMarks p kinds count l marks) (take_all i ns le) m

-- the marks by descriptors
pub types_marked : (p : Program) (names : Names) (count : ℕ) (ns : List ℕ) (marks : List Bool) → HasNames p names → count ≡ length (names_of names.types) → AreBaseMarks p names.kinds.items count ns marks → AreTypeMarks p names.types ns marks
types_marked p names count ns marks h e m = record { is = λ base low bare. m.is base (subst (λ x. base < x) (sym e) low) ∙ same base low bare ns }
  where
    plain : (base : ℕ) (k : Kind) → base < length (names_of names.types) → is_array (name_at names.types base) ≡ false → IsKind names.types k → is_plain base k ≡ text_eq (type_text names.types k) (name_at names.types base)
    plain base k low bare is = same_test (is_plain base k) (text_eq (type_text names.types k) (name_at names.types base))
        (λ t. let d : k.depth ≡ 0 = number_of k.depth 0 (and_left (nat_eq k.depth 0) (nat_eq k.base base) t) in
        ap (λ x. text_eq x (name_at names.types base)) (ap (λ n. replicate n 91 ++ name_at names.types k.base) d ∙ ap (name_at names.types) (number_of k.base base (and_right (nat_eq k.depth 0) (nat_eq k.base base) t))) ∙ text_same (name_at names.types base))
        (λ t. let q : k ≡ record { depth = 0; base = base } = same_kind names.types h.types k (record { depth = 0; base = base }) is (record { base = low; bare = bare }) (text_sound (type_text names.types k) (name_at names.types base) t) in
        ap (is_plain base) q ∙ number_test base base refl)

    one : (base n : ℕ) → base < length (names_of names.types) → is_array (name_at names.types base) ≡ false → (b : Bool) → nat_lt n (length p.types) ≡ b → (b && is_plain base (kind_in names.kinds.items n)) ≡ (b && text_eq (type_at p n) (name_at names.types base))
    one base n low bare false f = refl
    one base n low bare true f = let t = h.kinds n (ltb-true n (length p.types) f) in plain base (kind_in names.kinds.items n) low bare t.kind ∙ ap (λ x. text_eq x (name_at names.types base)) t.text

    same : (base : ℕ) → base < length (names_of names.types) → is_array (name_at names.types base) ≡ false → (ns : List ℕ) → list_any (has_base p names.kinds.items base) ns ≡ list_any (has_descriptor p (name_at names.types base)) ns
    same base low bare [] = refl
    same base low bare (n ∷ ns) = ap (λ b. b || list_any (has_base p names.kinds.items base) ns) (one base n low bare (nat_lt n (length p.types)) refl) ∙ ap (λ b. has_descriptor p (name_at names.types base) n || b) (same base low bare ns)

-- an array is no class
pub marked_type : (p : Program) (t : Types) (ns : List ℕ) (marks : List Bool) (k : Kind) → AreTypeMarks p t ns marks → IsKind t k
    → (not (not (nat_eq k.depth 0)) && slice_index_or marks k.base false) ≡ (not (is_array (type_text t k)) && list_any (has_descriptor p (type_text t k)) ns)
marked_type p t ns marks k m is = by_depth k.depth refl
  where
    by_depth : (d : ℕ) → k.depth ≡ d → (not (not (nat_eq k.depth 0)) && slice_index_or marks k.base false) ≡ (not (is_array (type_text t k)) && list_any (has_descriptor p (type_text t k)) ns)
    by_depth zero e =
        let x : type_text t k ≡ name_at t k.base = ap (λ n. replicate n 91 ++ name_at t k.base) e in
        ap (λ n. not (not (nat_eq n 0)) && slice_index_or marks k.base false) e ∙ m.is k.base is.base is.bare
        ∙ sym (ap (λ x. not (is_array x) && list_any (has_descriptor p x) ns) x ∙ ap (λ b. not b && list_any (has_descriptor p (name_at t k.base)) ns) is.bare)
    by_depth (suc d) e =
        ap (λ b. not (not b) && slice_index_or marks k.base false) (not_zero k.depth d e)
        ∙ sym (ap (λ n. not (is_array (replicate n 91 ++ name_at t k.base)) && list_any (has_descriptor p (type_text t k)) ns) e)
