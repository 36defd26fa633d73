-- Fewer methods have a receiver where some are made static.
use Rattle.std.proofs.Common.{◌≡◌, ℕ, zero, suc, ◌<◌, ◌≤◌, Bool, true, false, List, [], ◌∷◌, map, Option, Some, None, refl, sym, ap, ◌∙◌, subst, arith}
use Rattle.class_defs.specs.Members.{string_is}
use Rattle.std.specs.Prelude.{◌&&◌, ◌||◌, ◌==◌, codes, not, cond, is_some, slice_get, count_by, sum_by}
use Rattle.std.proofs.lemmas.List.Sorted.{sum_by-IsPermutation}
use Rattle.std.proofs.lemmas.List.Sums.{sum_by-cons}
use Rattle.std.proofs.lemmas.Nat.{and_or_self}
use Rattle.lemmas.proofs.Bools.{and_left, and_right}
use Rattle.lemmas.proofs.Options.{some_same}
use Rattle.program_model.specs.MemberRules.{is_static, is_direct}
use Rattle.program_model.specs.declared.body.Body.{Body}
use Rattle.program_model.specs.declared.flags.Flags.{Flags}
use Rattle.program_model.specs.declared.pass.Outside.{Outside}
use Rattle.program_model.specs.declared.pools.MethodName.{MethodName}
use Rattle.program_model.specs.declared.pools.Proto.{Proto}
use Rattle.program_model.specs.declared.program.Class.{Class}
use Rattle.program_model.specs.declared.program.Method.{Method}
use Rattle.program_model.specs.declared.program.Program.{Program}
use Rattle.facts.specs.declared.facts.Facts.{Facts}
use Rattle.static_protos.specs.Tables.{Tables, wanted, has_room}
use Rattle.loose_methods.specs.Candidates.{is_plain_class, takes_receiver, is_kept, is_candidate, may_be_static}
use Rattle.staticise.specs.Judging.{is_loose, judged}
use Rattle.staticise.specs.Left.{has_receiver_word, class_receivers, receivers_in}
use Rattle.loose_methods.specs.Loose.{is_alone, calls_allow}
use Rattle.loose_methods.specs.Mentioned.{is_mentioned}
use Rattle.staticise.specs.Loosened.{is_given, method_loosened, code_loosened, flags_loosened, marks_loosened, count_given, IsLoosenedClass, AreEach, IsLoosenedBy}
use Rattle.staticise.proofs.Made.{made_of}

-- ---- one method

abbrev pub word_of : Method → ℕ
word_of m = cond (has_receiver_word m) 1 0

static_now : (f : Flags) → is_static (flags_loosened f) ≡ true
static_now f = ap (λ n. n == 8) (and_or_self 8 f.0)

module _ (p : Program) (given : List (Option ℕ)) where
  code_kept : (b : Option Body) → is_some (code_loosened p given b) ≡ is_some b
  code_kept None = refl
  code_kept (Some b) = refl

  abbrev self_by : Bool → Method → Method
  self_by b m = elim b as (λ x. Method) [ true ↦ record m { flags = flags_loosened m.flags; parameter_marks = marks_loosened m.parameter_marks } | false ↦ m ]

  word_by : (b : Bool) (m : Method) → is_given given m.name ≡ b → word_of (method_loosened p given m) ≡ cond b 0 (word_of m)
  word_by true m e =
      ap (λ x. cond (is_some (code_loosened p given (self_by x m).body) && not (is_static (self_by x m).flags)) 1 0) e
      ∙ ap (λ x. cond (x && not (is_static (flags_loosened m.flags))) 1 0) (code_kept m.body) ∙ ap (λ x. cond (is_some m.body && not x) 1 0) (static_now m.flags) ∙ ap (λ x. cond x 1 0) (none (is_some m.body))
    where
      none : (b : Bool) → (b && false) ≡ false
      none true = refl
      none false = refl
  word_by false m e =
      ap (λ x. cond (is_some (code_loosened p given (self_by x m).body) && not (is_static (self_by x m).flags)) 1 0) e
      ∙ ap (λ x. cond (x && not (is_static m.flags)) 1 0) (code_kept m.body)

  word_falls : (m : Method) → word_of (method_loosened p given m) ≤ word_of m
  word_falls m = by (is_given given m.name) refl
    where
      by : (b : Bool) → is_given given m.name ≡ b → word_of (method_loosened p given m) ≤ word_of m
      by true e = let z : word_of (method_loosened p given m) ≡ 0 = word_by true m e in omega (arith, z)
      by false e = let z : word_of (method_loosened p given m) ≡ word_of m = word_by false m e in omega (arith, z)

  words_fall : (ms : List Method) → count_by has_receiver_word (map (method_loosened p given) ms) ≤ count_by has_receiver_word ms
  words_fall [] = omega arith
  words_fall (m ∷ ms) =
      let a = word_falls m in
      let b = words_fall ms in
      let c = sum_by-cons word_of (method_loosened p given m) (map (method_loosened p given) ms) in
      let d = sum_by-cons word_of m ms in
      omega (arith, a, b, c, d)

  one_falls : (ms : List Method) (i : ℕ) (m : Method) → slice_get ms i ≡ Some m → is_given given m.name ≡ true → has_receiver_word m ≡ true
      → count_by has_receiver_word (map (method_loosened p given) ms) < count_by has_receiver_word ms
  one_falls [] i m e f g = absurd (cc)
  one_falls (x ∷ ms) zero m e f g =
      let same : x ≡ m = some_same x m e in
      let a : word_of (method_loosened p given x) ≡ 0 = word_by true x (ap (λ (y : Method). is_given given y.name) same ∙ f) in
      let b : word_of x ≡ 1 = ap word_of same ∙ ap (λ y. cond y 1 0) g in
      let c = words_fall ms in
      let s = sum_by-cons word_of (method_loosened p given x) (map (method_loosened p given) ms) in
      let r = sum_by-cons word_of x ms in
      omega (arith, a, b, c, s, r)
  one_falls (x ∷ ms) (suc i) m e f g =
      let a = word_falls x in
      let b = one_falls ms i m e f g in
      let s = sum_by-cons word_of (method_loosened p given x) (map (method_loosened p given) ms) in
      let r = sum_by-cons word_of x ms in
      omega (arith, a, b, s, r)

  class_falls : (c d : Class) → IsLoosenedClass p given c d → class_receivers d ≤ class_receivers c
  class_falls c d r = let a : class_receivers d ≡ count_by has_receiver_word (map (method_loosened p given) c.methods) = sum_by-IsPermutation word_of (map (method_loosened p given) c.methods) d.methods r.methods in let b = words_fall c.methods in omega (arith, a, b)

  class_less : (c d : Class) (i : ℕ) (m : Method) → IsLoosenedClass p given c d → slice_get c.methods i ≡ Some m → is_given given m.name ≡ true → has_receiver_word m ≡ true → class_receivers d < class_receivers c
  class_less c d i m r e f g = let a : class_receivers d ≡ count_by has_receiver_word (map (method_loosened p given) c.methods) = sum_by-IsPermutation word_of (map (method_loosened p given) c.methods) d.methods r.methods in let b = one_falls c.methods i m e f g in omega (arith, a, b)

  tail : (x y : Class) (xs ys : List Class) → AreEach (IsLoosenedClass p given) (x ∷ xs) (y ∷ ys) → AreEach (IsLoosenedClass p given) xs ys
  tail x y xs ys a = record { long = (let l = a.long in omega (arith, l)); each = λ k z e. a.each (suc k) z e }

  head : (x y : Class) (xs ys : List Class) → AreEach (IsLoosenedClass p given) (x ∷ xs) (y ∷ ys) → IsLoosenedClass p given x y
  head x y xs ys a = let r = a.each 0 x refl in subst (λ z. IsLoosenedClass p given x z) (sym (some_same y r.0 r.1)) r.2

  classes_fall : (xs ys : List Class) → AreEach (IsLoosenedClass p given) xs ys → sum_by class_receivers ys ≤ sum_by class_receivers xs
  classes_fall [] [] a = omega arith
  classes_fall [] (y ∷ ys) a = let l = a.long in absurd (omega (arith, l))
  classes_fall (x ∷ xs) [] a = let l = a.long in absurd (omega (arith, l))
  classes_fall (x ∷ xs) (y ∷ ys) a = let b = class_falls x y (head x y xs ys a) in let c = classes_fall xs ys (tail x y xs ys a) in let s = sum_by-cons class_receivers y ys in let r = sum_by-cons class_receivers x xs in omega (arith, b, c, s, r)

  classes_less : (xs ys : List Class) (k i : ℕ) (c : Class) (m : Method) → AreEach (IsLoosenedClass p given) xs ys → slice_get xs k ≡ Some c → slice_get c.methods i ≡ Some m → is_given given m.name ≡ true → has_receiver_word m ≡ true
      → sum_by class_receivers ys < sum_by class_receivers xs
  classes_less [] ys k i c m a e f g h = absurd (cc)
  classes_less (x ∷ xs) [] k i c m a e f g h = let l = a.long in absurd (omega (arith, l))
  classes_less (x ∷ xs) (y ∷ ys) zero i c m a e f g h =
      let same : x ≡ c = some_same x c e in
      let b = class_less x y i m (head x y xs ys a) (ap (λ (z : Class). slice_get z.methods i) same ∙ f) g h in
      let d = classes_fall xs ys (tail x y xs ys a) in
      let s = sum_by-cons class_receivers y ys in
      let r = sum_by-cons class_receivers x xs in
      omega (arith, b, d, s, r)
  classes_less (x ∷ xs) (y ∷ ys) (suc k) i c m a e f g h = let b = class_falls x y (head x y xs ys a) in let d = classes_less xs ys k i c m (tail x y xs ys a) e f g h in let s = sum_by-cons class_receivers y ys in let r = sum_by-cons class_receivers x xs in omega (arith, b, d, s, r)

-- ---- a method that is made static has a receiver

some_given : (xs : List (Option ℕ)) → 0 < count_by is_some xs → (n : ℕ) × (is_given xs n ≡ true)
some_given [] l = absurd (omega (arith, l))
some_given (None ∷ xs) l = let r = some_given xs l in (suc r.0, r.1)
some_given (Some x ∷ xs) l = (0, refl)

module _ (p : Program) (facts : Facts) (o : Outside) (admitted : List Bool) where
  pub receives_so : (t : Tables) (place : ℕ) (k : Class) (m : Method) (q : MethodName) (proto : Proto) → is_loose p facts o admitted t place k m q proto ≡ true → has_receiver_word m ≡ true
  receives_so t place k m q proto e =
      let may = and_left (may_be_static p facts o admitted place k q m) (has_room p t (wanted p k m q proto)) e in
      let cand = and_left (is_candidate p o place k q m) (not (is_mentioned p m.name)) (and_left (is_candidate p o place k q m && not (is_mentioned p m.name)) (calls_allow p facts admitted m.name) may) in
      let three = and_left (is_plain_class p place k && takes_receiver p q m && not (is_kept o m.name)) (is_direct p m || is_alone p q place) cand in
      let takes = and_right (is_plain_class p place k) (takes_receiver p q m) (and_left (is_plain_class p place k && takes_receiver p q m) (not (is_kept o m.name)) three) in
      and_left (is_some m.body && not (is_static m.flags)) (not (string_is p q.name (codes "<init>"))) takes

  pub falls : (q : Program) → 0 < count_given (judged p facts o admitted) → IsLoosenedBy p (judged p facts o admitted) q → receivers_in q < receivers_in p
  falls q l r =
      let s = some_given (judged p facts o admitted).given l in
      let g = made_of p facts o admitted s.0 s.1 in
      classes_less p (judged p facts o admitted).given p.classes q.classes g.place g.at g.class g.method r.classes g.is_class g.is_method (ap (is_given (judged p facts o admitted).given) g.is_number ∙ s.1)
      (receives_so g.tables g.place g.class g.method g.name g.proto g.holds)
