-- Constants, gotos and nops that leave no more than what they stand for.
use Rattle.std.proofs.Common.{◌≡◌, ◌⊎◌, inl, inr, ℕ, zero, suc, ◌+◌, ◌<◌, ℤ, pos, Bool, true, false, true≢false, List, [], ◌∷◌, ◌++◌, length, refl, sym, ap, ap₂, ◌∙◌, subst, arith, eq-eqb, nat_eq}
use Rattle.std.specs.Prelude.{◌&&◌, if◌then◌else◌, slice_set, Contains}
use Rattle.std.specs.Ordering.{int_eq}
use Rattle.std.specs.Cmp.Lexicographic.{bytes_decides}
use Rattle.lemmas.proofs.Bools.{and_both}
use Rattle.lemmas.proofs.Lists.{contains_here}
use Rattle.dalvik_defs.specs.Names.{Text, text_eq}
use Rattle.dalvik_defs.specs.declared.forms.Form.{Form}
use Rattle.dalvik_defs.specs.declared.forms.Form.TheVariants as form
use Rattle.dalvik_defs.specs.declared.program.NamedClass.{NamedClass}
use Rattle.dalvik_defs.specs.declared.program.NamedMethod.{NamedMethod}
use Rattle.dalvik_defs.specs.declared.program.NamedProgram.{NamedProgram}
use Rattle.pass_defs.specs.Bare.{continues, targets}
use Rattle.pass_defs.specs.Kinds.{Kind, Undefined, Zero, Word, Low, High, Null, Class, Array, Reference, Fresh, FreshThis, kind_eq, is_below}
use Rattle.pass_defs.specs.Registers.{Kinds, all_below, kinds_below, split, written, written_kinds, written_one}
use Rattle.pass_defs.specs.Typed.{after, constant_kind}
use Rattle.pass_defs.specs.Walks.{next_position, onward}
use Rattle.form_laws.specs.Typed.{Lowers}

-- ---- the order of kinds

text_self : (t : Text) → text_eq t t ≡ true
text_self t = (bytes_decides t t).1 refl

kind_self : (k : Kind) → kind_eq k k ≡ true
kind_self Undefined = refl
kind_self Zero = refl
kind_self Word = refl
kind_self Low = refl
kind_self High = refl
kind_self Null = refl
kind_self (Class t) = text_self t
kind_self (Array t) = text_self t
kind_self Reference = refl
kind_self (Fresh t n) = and_both (text_eq t t) (nat_eq n n) (text_self t) (eq-eqb n n refl)
kind_self FreshThis = refl

module _ (p : NamedProgram) where
  itself_below : (k : Kind) → is_below p k k ≡ true
  itself_below k = rw (kind_self k) (kind_self k)

  all_self : (ks : List Kind) → all_below p ks ks ≡ true
  all_self [] = refl
  all_self (k ∷ ks) = and_both (is_below p k k) (all_below p ks ks) (itself_below k) (all_self ks)

  set_below : (ks : List Kind) (r : ℕ) (k l : Kind) → is_below p k l ≡ true → all_below p (slice_set ks r k) (slice_set ks r l) ≡ true
  set_below [] r k l e = refl
  set_below (x ∷ ks) zero k l e = and_both (is_below p k l) (all_below p ks ks) e (all_self ks)
  set_below (x ∷ ks) (suc r) k l e = and_both (is_below p x x) (all_below p (slice_set ks r k) (slice_set ks r l)) (itself_below x) (set_below ks r k l e)

  registers_below : (a : Kinds) (xs ys : List Kind) → all_below p xs ys ≡ true → kinds_below p (record a { registers = xs }) (record a { registers = ys }) ≡ true
  registers_below a xs ys e =
      let r = is_below p a.result a.result in
      let c = is_below p a.caught a.caught in
      and_both (all_below p xs ys && r && c) (is_below p a.receiver a.receiver)
      (and_both (all_below p xs ys && r) c (and_both (all_below p xs ys) r e (itself_below a.result)) (itself_below a.caught)) (itself_below a.receiver)

  kinds_self : (a : Kinds) → kinds_below p a a ≡ true
  kinds_self a = registers_below a a.registers a.registers (all_self a.registers)

  -- what is above a word is written to one register
  zero_one : (l : Kind) (r : ℕ) (ks : List Kind) → is_below p Zero l ≡ true → written_kinds r l ks ≡ written_one r l ks
  zero_one Low r ks e = absurd (true≢false (sym e))
  zero_one l r ks e = refl

  word_one : (l : Kind) (r : ℕ) (ks : List Kind) → is_below p Word l ≡ true → written_kinds r l ks ≡ written_one r l ks
  word_one Low r ks e = absurd (true≢false (sym e))
  word_one l r ks e = refl

  constant_below : (value : ℤ) (l : Kind) (r : ℕ) (a : Kinds) → is_below p (constant_kind value) l ≡ true → kinds_below p (written r (constant_kind value) a) (written r l a) ≡ true
  constant_below value l r a = by (int_eq value (pos 0))
    where
      by : (b : Bool) → is_below p (if b then Zero else Word) l ≡ true → kinds_below p (written r (if b then Zero else Word) a) (written r l a) ≡ true
      by true e = registers_below a (written_one r Zero a.registers) (written_kinds r l a.registers)
          (ap (all_below p (written_one r Zero a.registers)) (zero_one l r a.registers e) ∙ set_below (split r a.registers) r Zero l e)
      by false e = registers_below a (written_one r Word a.registers) (written_kinds r l a.registers)
          (ap (all_below p (written_one r Word a.registers)) (word_one l r a.registers e) ∙ set_below (split r a.registers) r Word l e)

-- ---- what is written over a form

only_one : (x q : ℕ) → Contains (x ∷ []) q → x ≡ q
only_one x q (zero, l, e) = e
only_one x q (suc k, l, e) = let f : ⊥ = omega (arith, l) in absurd f

goes_next : (f : Form) (n q : ℕ) → continues f ≡ true → Contains ((n + 1) ∷ []) q → Contains (onward f n) q
goes_next f n q e i = subst (Contains (onward f n)) (only_one (n + 1) q i) (subst (λ b. Contains (next_position b n ++ targets f) (n + 1)) (sym e) (contains_here (n + 1) (targets f)))

module _ (p : NamedProgram) (c : NamedClass) (m : NamedMethod) (n : ℕ) (a : Kinds) (f : Form) where
  pub word_lowers : (to : ℕ) (value : ℤ) (l : Kind) → continues f ≡ true → after p c n f a ≡ written to l a → is_below p (constant_kind value) l ≡ true → Lowers p c m n a f (form.Const to value)
  word_lowers to value l goes leaves e = record {
    allowed = refl;
    right = refl;
    calm = refl;
    onward = λ q i. goes_next f n q goes i;
    below = ap (kinds_below p (written to (constant_kind value) a)) leaves ∙ constant_below p value l to a e;
  }

  pub wide_lowers : (to : ℕ) (value : ℤ) → continues f ≡ true → after p c n f a ≡ written to Low a → Lowers p c m n a f (form.ConstWide to value)
  wide_lowers to value goes leaves = record {
    allowed = refl;
    right = refl;
    calm = refl;
    onward = λ q i. goes_next f n q goes i;
    below = ap (kinds_below p (written to Low a)) leaves ∙ kinds_self p (written to Low a);
  }

  pub nop_lowers : continues f ≡ true → after p c n f a ≡ a → Lowers p c m n a f form.Nop
  nop_lowers goes leaves = record {
    allowed = refl;
    right = refl;
    calm = refl;
    onward = λ q i. goes_next f n q goes i;
    below = ap (kinds_below p a) leaves ∙ kinds_self p a;
  }

  pub goto_lowers : (target : ℕ) → Contains (onward f n) target → after p c n f a ≡ a → Lowers p c m n a f (form.Goto target)
  goto_lowers target there leaves = record {
    allowed = refl;
    right = refl;
    calm = refl;
    onward = λ q i. subst (Contains (onward f n)) (only_one target q i) there;
    below = ap (kinds_below p a) leaves ∙ kinds_self p a;
  }
