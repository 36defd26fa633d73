-- What super calls find that begin at the superclass.
use Rattle.std.proofs.Common.{◌≡◌, ℕ, zero, suc, ◌+◌, ◌<◌, ◌≤◌, Bool, true, false, true≢false, List, [], ◌∷◌, ◌++◌, length, get_or, Option, Some, None, inl, inr, refl, sym, ap, subst, ◌∙◌, arith}
use Rattle.std.specs.Prelude.{◌||◌, slice_get, slice_index_or, cond}
use Rattle.std.specs.List.{list_any}
use Rattle.std.proofs.lemmas.Bool.{cases_lt}
use Rattle.class_defs.specs.Finding.{first_among, finds_from, finds_super, finds_super_of, finds_super_037, finds_above, lists_interface, by_entry, is_037}
use Rattle.class_defs.specs.Finding as finding
use Rattle.class_defs.specs.Members.{own_method}
use Rattle.class_defs.specs.Places.{super_place, chain_from}
use Rattle.program_model.specs.declared.pools.MethodName.{MethodName}
use Rattle.program_model.specs.declared.program.MethodAt.{MethodAt}
use Rattle.program_model.specs.declared.program.Program.{Program}
use Rattle.insn_set.specs.declared.form.Insn.{Insn}
use Rattle.insn_set.specs.declared.form.Insn.TheVariants as insn
use Rattle.insn_set.specs.declared.ops.InvokeKind.{InvokeKind}
use Rattle.insn_set.specs.declared.ops.InvokeKind.TheVariants as call
use Rattle.verify.specs.declared.calls.Search.{Search}
use Rattle.verify.specs.declared.calls.Search.TheVariants as search
use Rattle.verify.specs.Supers.{found_at_place, place_found, said, is_super_kind, is_super, called_by_kind, super_search, Finds, FindsBelow}

no_chain : (f : ℕ → Option ℕ) (n : ℕ) → chain_from f n None ≡ []
no_chain f zero = refl
no_chain f (suc n) = refl

-- nothing stands above a class without a superclass
pub none_above : (p : Program) (name proto : ℕ) → finds_from p name proto None ≡ None
none_above p name proto = ap (first_among (own_method p name proto)) (no_chain (super_place p) (length p.classes))

pub said_place : (p : Program) (s : finding.Search) → found_at_place p (place_found s) ≡ said p s
said_place p (finding.Finds at) = refl
said_place p finding.Nothing = refl
said_place p finding.Clash = refl

pub place_above : (o : Option MethodAt) → o ≡ place_found (finding.search_of o)
place_above None = refl
place_above (Some at) = refl

-- a call that names a type of the framework
pub kind_listed : (p : Program) (class kind : ℕ) (q : MethodName) → q.class ≡ kind → true ≡ lists_interface p class kind → None ≡ place_found (finds_super_037 p class q None)
kind_listed p class kind q e f = sym (ap (λ b. place_found (cond b finding.Nothing (finds_above p class q))) (ap (lists_interface p class) e ∙ sym f))

pub kind_above : (p : Program) (class kind : ℕ) (q : MethodName) (r : Option MethodAt) → q.class ≡ kind → false ≡ lists_interface p class kind → r ≡ finds_from p q.name q.proto (super_place p class) → r ≡ place_found (finds_super_037 p class q None)
kind_above p class kind q r e f g = g ∙ place_above (finds_from p q.name q.proto (super_place p class)) ∙ sym (ap (λ b. place_found (cond b finding.Nothing (finds_above p class q))) (ap (lists_interface p class) e ∙ sym f))

-- ---- super calls in a body

pub none_at : {X : Type 0} (t : X → Bool) (xs : List X) (n : ℕ) (x : X) → list_any t xs ≡ false → slice_get xs n ≡ Some x → t x ≡ false
none_at t [] n x h e = cc
none_at t (y ∷ ys) zero x h e = let s : y ≡ x = cc in ap t (sym s) ∙ first (t y) (list_any t ys) h
  where
    first : (a b : Bool) → (a || b) ≡ false → a ≡ false
    first true b f = f
    first false b f = refl
none_at t (y ∷ ys) (suc n) x h e = none_at t ys n x (rest (t y) (list_any t ys) h) e
  where
    rest : (a b : Bool) → (a || b) ≡ false → b ≡ false
    rest true b f = absurd (true≢false f)
    rest false b f = f

no_kind : (p : Program) (class : ℕ) (k : InvokeKind) (method : ℕ) → is_super_kind k ≡ false → called_by_kind p class k method ≡ search.Nothing
no_kind p class call.Super method e = absurd (true≢false e)
no_kind p class call.Virtual method e = refl
no_kind p class call.Direct method e = refl
no_kind p class call.Static method e = refl
no_kind p class call.Interface method e = refl

no_super : (p : Program) (class : ℕ) (i : Insn) → is_super i ≡ false → super_search p class i ≡ search.Nothing
no_super p class (insn.Invoke k method args) e = no_kind p class k method e
no_super p class i e = refl

-- where there is no super call, nothing is found
pub finds_none : (p : Program) (class : ℕ) (is : List Insn) → list_any is_super is ≡ false → Finds p class is []
finds_none p class is h n i e = sym (no_super p class i (none_at is_super is n i h e))

pub got : {X : Type 0} (xs : List X) (n : ℕ) (x : X) → x ≡ get_or xs n x → n < length xs → slice_get xs n ≡ Some x
got [] n x f l = absurd (omega (arith, l))
got (z ∷ zs) zero x f l = ap (λ w. Some w) (sym f)
got (z ∷ zs) (suc n) x f l = got zs n x f (omega (arith, l))

got_short : {X : Type 0} (xs : List X) (i : ℕ) (x : X) → slice_get xs i ≡ Some x → i < length xs
got_short [] i x e = cc
got_short (y ∷ ys) zero x e = omega arith
got_short (y ∷ ys) (suc i) x e = let h = got_short ys i x e in omega (arith, h)

-- one more position
pub finds_more : (p : Program) (class : ℕ) (is slice : List Insn) (n : ℕ) (x : Insn) (old new : List Search) (y : Search) → slice ≡ is → x ≡ get_or slice n x → n < length slice → length old ≡ n → new ≡ old ++ y ∷ []
    → y ≡ super_search p class x → FindsBelow p class is old n → FindsBelow p class is new (n + 1)
finds_more p class is slice n x old new y same item lt long pushed here so_far k i below e = elim (cases_lt k n) [
  | inl l ↦ ap (λ z. slice_index_or z k search.Nothing) pushed ∙ before old k y (omega (arith, l, long)) ∙ so_far k i l e
  | inr g ↦
      let q : k ≡ n = omega (arith, below, g) in
      let at : slice_get is n ≡ Some x = subst (λ l. slice_get l n ≡ Some x) same (got slice n x item lt) in
      let s : Some x ≡ Some i = sym at ∙ ap (slice_get is) (sym q) ∙ e in
      let t : x ≡ i = cc in
      ap (λ z. slice_index_or z k search.Nothing) pushed ∙ ap (λ m. slice_index_or (old ++ y ∷ []) m search.Nothing) (q ∙ sym long) ∙ last old y
      ∙ here ∙ ap (super_search p class) t
]
  where
    before : (xs : List Search) (k : ℕ) (y : Search) → k < length xs → slice_index_or (xs ++ y ∷ []) k search.Nothing ≡ slice_index_or xs k search.Nothing
    before [] k y l = absurd (omega (arith, l))
    before (z ∷ zs) zero y l = refl
    before (z ∷ zs) (suc k) y l = before zs k y (omega (arith, l))

    last : (xs : List Search) (y : Search) → slice_index_or (xs ++ y ∷ []) (length xs) search.Nothing ≡ y
    last [] y = refl
    last (z ∷ zs) y = last zs y

pub finds_all : (p : Program) (class : ℕ) (is : List Insn) (found : List Search) (n : ℕ) → length is ≤ n → FindsBelow p class is found n → Finds p class is found
finds_all p class is found n le h k i e = h k i (let l = got_short is k i e in omega (arith, l, le)) e
