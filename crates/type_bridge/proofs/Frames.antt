-- The kinds of a position by names: their order, and how writes change them.
use Rattle.std.proofs.Common.{◌≡◌, ℕ, zero, suc, ◌+◌, ◌-◌, Bool, true, false, true≢false, nat_eq, List, [], ◌∷◌, map, length, Option, Some, None, refl, sym, ap, ◌∙◌, subst, arith}
use Rattle.std.specs.Prelude.{◌&&◌, slice_set, slice_get, if◌then◌else◌}
use Rattle.std.specs.Option.{option_map}
use Rattle.class_defs.proofs.Positions.{number_test, number_of, same_test, both}
use Rattle.program_model.specs.declared.program.Class.{Class}
use Rattle.program_model.specs.declared.program.Program.{Program}
use Rattle.dalvik_defs.specs.Naming.{type_at, named}
use Rattle.dalvik_defs.specs.declared.program.NamedProgram.{NamedProgram}
use Rattle.pass_defs.specs.Kinds as name
use Rattle.pass_defs.specs.Kinds.{kind_eq, is_below}
use Rattle.pass_defs.specs.Registers as by_name
use Rattle.verify.specs.declared.kinds.Kind as number
use Rattle.verify.specs.declared.kinds.Kind.TheVariants as kind
use Rattle.verify.specs.declared.tables.Tables.{Tables}
use Rattle.verify.specs.Frames.{Kinds, kind_at, is_pair, cleared, split, written_one, written_pair, written_kinds}
use Rattle.verify.specs.Kinds as kinds
use Rattle.verify.specs.Kinds.{same_kind, forgotten}
use Rattle.verify.specs.Typings.{Below, IsBelow, AtMost}
use Rattle.verify.proofs.Orders.{made_below, bare_below}
use Rattle.type_bridge.specs.Views.{class_kind, kind_named, receiver_named, kinds_named}
use Rattle.type_bridge.proofs.Told.{Told}
use Rattle.type_bridge.proofs.Order.{itself_below, undefined_above, below_named}

-- ---- kinds at registers

pub at_named : (p : Program) (ks : List number.Kind) (r : ℕ) → by_name.kind_at (map (kind_named p) ks) r ≡ kind_named p (kind_at ks r)
at_named p [] r = refl
at_named p (k ∷ ks) zero = refl
at_named p (k ∷ ks) (suc r) = at_named p ks r

-- ---- halves

pub low_test : (p : Program) (k : number.Kind) → kind_eq (kind_named p k) name.Low ≡ same_kind k kind.WideLow
low_test p (kind.Program c) = by (slice_get p.classes c)
  where
    by : (o : Option Class) → kind_eq (class_kind p o) name.Low ≡ false
    by None = refl
    by (Some k) = refl
low_test p (kind.Array zero i) = refl
low_test p (kind.Array (suc n) i) = refl
low_test p k = refl

pub high_test : (p : Program) (k : number.Kind) → kind_eq (kind_named p k) name.High ≡ same_kind k kind.WideHigh
high_test p (kind.Program c) = by (slice_get p.classes c)
  where
    by : (o : Option Class) → kind_eq (class_kind p o) name.High ≡ false
    by None = refl
    by (Some k) = refl
high_test p (kind.Array zero i) = refl
high_test p (kind.Array (suc n) i) = refl
high_test p k = refl

pub pair_named : (p : Program) (ks : List number.Kind) (r : ℕ) → (kind_eq (by_name.kind_at (map (kind_named p) ks) r) name.Low && kind_eq (by_name.kind_at (map (kind_named p) ks) (r + 1)) name.High) ≡ is_pair ks r
pair_named p ks r =
    ap (λ k. kind_eq k name.Low && kind_eq (by_name.kind_at (map (kind_named p) ks) (r + 1)) name.High) (at_named p ks r)
    ∙ ap (λ k. kind_eq (kind_named p (kind_at ks r)) name.Low && kind_eq k name.High) (at_named p ks (r + 1))
    ∙ ap (λ b. b && kind_eq (kind_named p (kind_at ks (r + 1))) name.High) (low_test p (kind_at ks r))
    ∙ ap (λ b. same_kind (kind_at ks r) kind.WideLow && b) (high_test p (kind_at ks (r + 1)))

-- ---- writes

set_named : (p : Program) (ks : List number.Kind) (r : ℕ) (k : number.Kind) → slice_set (map (kind_named p) ks) r (kind_named p k) ≡ map (kind_named p) (slice_set ks r k)
set_named p [] r k = refl
set_named p (x ∷ ks) zero k = refl
set_named p (x ∷ ks) (suc r) k = ap (λ ys. kind_named p x ∷ ys) (set_named p ks r k)

cleared_by : (p : Program) (ks : List number.Kind) (r : ℕ) (a b : Bool) → a ≡ b → (if a then slice_set (map (kind_named p) ks) r name.Undefined else map (kind_named p) ks) ≡ map (kind_named p) (if b then slice_set ks r kind.Undefined else ks)
cleared_by p ks r true true e = set_named p ks r kind.Undefined
cleared_by p ks r false false e = refl
cleared_by p ks r true false e = absurd (true≢false e)
cleared_by p ks r false true e = absurd (true≢false (sym e))

low_cleared : (p : Program) (r : ℕ) (ks : List number.Kind) → by_name.cleared r name.Low (map (kind_named p) ks) ≡ map (kind_named p) (cleared r kind.WideLow ks)
low_cleared p r ks = cleared_by p ks r (kind_eq (by_name.kind_at (map (kind_named p) ks) r) name.Low) (same_kind (kind_at ks r) kind.WideLow) (ap (λ k. kind_eq k name.Low) (at_named p ks r) ∙ low_test p (kind_at ks r))

high_cleared : (p : Program) (r : ℕ) (ks : List number.Kind) → by_name.cleared r name.High (map (kind_named p) ks) ≡ map (kind_named p) (cleared r kind.WideHigh ks)
high_cleared p r ks = cleared_by p ks r (kind_eq (by_name.kind_at (map (kind_named p) ks) r) name.High) (same_kind (kind_at ks r) kind.WideHigh) (ap (λ k. kind_eq k name.High) (at_named p ks r) ∙ high_test p (kind_at ks r))

split_named : (p : Program) (r : ℕ) (ks : List number.Kind) → by_name.split r (map (kind_named p) ks) ≡ map (kind_named p) (split r ks)
split_named p r ks = ap (by_name.cleared (r - 1) name.Low) (high_cleared p (r + 1) ks) ∙ low_cleared p (r - 1) (cleared (r + 1) kind.WideHigh ks)

one_named : (p : Program) (r : ℕ) (k : number.Kind) (ks : List number.Kind) → by_name.written_one r (kind_named p k) (map (kind_named p) ks) ≡ map (kind_named p) (written_one r k ks)
one_named p r k ks = ap (λ l. slice_set l r (kind_named p k)) (split_named p r ks) ∙ set_named p (split r ks) r k

pair_written : (p : Program) (r : ℕ) (ks : List number.Kind) → by_name.written_pair r (map (kind_named p) ks) ≡ map (kind_named p) (written_pair r ks)
pair_written p r ks =
    ap (λ l. slice_set (slice_set (by_name.split (r + 1) l) r name.Low) (r + 1) name.High) (split_named p r ks)
    ∙ ap (λ l. slice_set (slice_set l r name.Low) (r + 1) name.High) (split_named p (r + 1) (split r ks))
    ∙ ap (λ l. slice_set l (r + 1) name.High) (set_named p (split (r + 1) (split r ks)) r kind.WideLow)
    ∙ set_named p (slice_set (split (r + 1) (split r ks)) r kind.WideLow) (r + 1) kind.WideHigh

pub written_named : (p : Program) (r : ℕ) (k : number.Kind) (ks : List number.Kind) → by_name.written_kinds r (kind_named p k) (map (kind_named p) ks) ≡ map (kind_named p) (written_kinds r k ks)
written_named p r kind.WideLow ks = pair_written p r ks
written_named p r (kind.Program c) ks = by (slice_get p.classes c) (one_named p r (kind.Program c) ks)
  where
    by : (o : Option Class) → by_name.written_one r (class_kind p o) (map (kind_named p) ks) ≡ map (kind_named p) (written_one r (kind.Program c) ks) → by_name.written_kinds r (class_kind p o) (map (kind_named p) ks) ≡ map (kind_named p) (written_one r (kind.Program c) ks)
    by None e = e
    by (Some k) e = e
written_named p r (kind.Array zero i) ks = one_named p r (kind.Array zero i) ks
written_named p r (kind.Array (suc n) i) ks = one_named p r (kind.Array (suc n) i) ks
written_named p r k ks = one_named p r k ks

-- ---- what was made at a position

pub number_swaps : (m n : ℕ) → nat_eq m n ≡ nat_eq n m
number_swaps m n = same_test (nat_eq m n) (nat_eq n m) (λ e. number_test n m (sym (number_of m n e))) (λ e. number_test m n (sym (number_of n m e)))

forgotten_one : (p : Program) (n : ℕ) (k : number.Kind) → by_name.forgotten n (kind_named p k) ≡ kind_named p (forgotten n k)
forgotten_one p n (kind.Fresh c m) = ap (λ b. elim b as (λ b. name.Kind) [ true ↦ name.Undefined | false ↦ name.Fresh (type_at p c) m ]) (number_swaps n m) ∙ by (nat_eq m n)
  where
    by : (b : Bool) → elim b as (λ b. name.Kind) [ true ↦ name.Undefined | false ↦ name.Fresh (type_at p c) m ] ≡ kind_named p (if b then kind.Undefined else kind.Fresh c m)
    by true = refl
    by false = refl
forgotten_one p n (kind.Program c) = by (slice_get p.classes c)
  where
    by : (o : Option Class) → by_name.forgotten n (class_kind p o) ≡ class_kind p o
    by None = refl
    by (Some k) = refl
forgotten_one p n (kind.Array zero i) = refl
forgotten_one p n (kind.Array (suc m) i) = refl
forgotten_one p n k = refl

pub mapped : {A B : Type 0} (f : A → B) (g : B → B) (h : A → A) → ((x : A) → g (f x) ≡ f (h x)) → (xs : List A) → map g (map f xs) ≡ map f (map h xs)
mapped f g h e [] = refl
mapped f g h e (x ∷ xs) = cc (e x, mapped f g h e xs)

pub forgotten_named : (p : Program) (n : ℕ) (ks : List number.Kind) → map (by_name.forgotten n) (map (kind_named p) ks) ≡ map (kind_named p) (map (forgotten n) ks)
forgotten_named p n ks = mapped (kind_named p) (by_name.forgotten n) (forgotten n) (forgotten_one p n) ks

-- ---- the order of kinds at positions

pub all_same : (q : NamedProgram) (ks : List name.Kind) → by_name.all_below q ks ks ≡ true
all_same q [] = refl
all_same q (k ∷ ks) = both (is_below q k k) (by_name.all_below q ks ks) (itself_below q k) (all_same q ks)

-- as many registers, each at or below the other one's
pub all_at : (q : NamedProgram) (ks ls : List name.Kind) → length ks ≡ length ls → ((r : ℕ) → is_below q (by_name.kind_at ks r) (by_name.kind_at ls r) ≡ true) → by_name.all_below q ks ls ≡ true
all_at q [] [] e h = refl
all_at q [] (l ∷ ls) e h = absurd (omega (arith, e))
all_at q (k ∷ ks) [] e h = absurd (omega (arith, e))
all_at q (k ∷ ks) (l ∷ ls) e h = both (is_below q k l) (by_name.all_below q ks ls) (h 0) (all_at q ks ls (omega (arith, e)) (λ r. h (suc r)))

-- a lower kind at one register
pub set_below : (q : NamedProgram) (ks : List name.Kind) (r : ℕ) (k l : name.Kind) → is_below q k l ≡ true → by_name.all_below q (slice_set ks r k) (slice_set ks r l) ≡ true
set_below q [] r k l e = refl
set_below q (x ∷ ks) zero k l e = both (is_below q k l) (by_name.all_below q ks ks) e (all_same q ks)
set_below q (x ∷ ks) (suc r) k l e = both (is_below q x x) (by_name.all_below q (slice_set ks r k) (slice_set ks r l)) (itself_below q x) (set_below q ks r k l e)

pub close : (q : NamedProgram) (a b : by_name.Kinds) → by_name.all_below q a.registers b.registers ≡ true → is_below q a.result b.result ≡ true → is_below q a.caught b.caught ≡ true → is_below q a.receiver b.receiver ≡ true → by_name.kinds_below q a b ≡ true
close q a b e f g h = three (by_name.all_below q a.registers b.registers) (is_below q a.result b.result) (is_below q a.caught b.caught) (is_below q a.receiver b.receiver) e f g h
  where
    three : (w x y z : Bool) → w ≡ true → x ≡ true → y ≡ true → z ≡ true → (w && x && y && z) ≡ true
    three true true true true e f g h = refl
    three false x y z e f g h = absurd (true≢false (sym e))
    three true false y z e f g h = absurd (true≢false (sym f))
    three true true false z e f g h = absurd (true≢false (sym g))
    three true true true false e f g h = absurd (true≢false (sym h))

pub kinds_same : (q : NamedProgram) (a b : by_name.Kinds) → a ≡ b → by_name.kinds_below q a b ≡ true
kinds_same q a b e = subst (λ c. by_name.kinds_below q a c ≡ true) e (close q a a (all_same q a.registers) (itself_below q a.result) (itself_below q a.caught) (itself_below q a.receiver))

module _ (p : Program) (t : Tables) (d : Told p t) where
  pub all_named : (ks ls : List number.Kind) → length ks ≡ length ls → ((r : ℕ) → Below t (kind_at ks r) (kind_at ls r)) → by_name.all_below (named p) (map (kind_named p) ks) (map (kind_named p) ls) ≡ true
  all_named [] [] e h = refl
  all_named [] (l ∷ ls) e h = absurd (omega (arith, e))
  all_named (k ∷ ks) [] e h = absurd (omega (arith, e))
  all_named (k ∷ ks) (l ∷ ls) e h = both (is_below (named p) (kind_named p k) (kind_named p l)) (by_name.all_below (named p) (map (kind_named p) ks) (map (kind_named p) ls))
      (below_named p t d k l (h 0)) (all_named ks ls (omega (arith, e)) (λ r. h (suc r)))

  pub made_receiver : (made : name.Kind) (k : number.Kind) → kinds.is_initialised k ≡ true → receiver_named made k ≡ made
  made_receiver made kind.FreshThis e = absurd (true≢false (sym e))
  made_receiver made (kind.Fresh c n) e = refl
  made_receiver made k e = ap (λ b. if b then made else name.Undefined) e

  pub receiver_below : (made : name.Kind) (a b : number.Kind) → Below t a b → is_below (named p) (receiver_named made a) (receiver_named made b) ≡ true
  receiver_below made a kind.FreshThis e = subst (λ x. is_below (named p) (receiver_named made x) name.FreshThis ≡ true) (sym (bare_below t a kind.FreshThis e refl refl refl)) refl
  receiver_below made a (kind.Fresh c n) e = subst (λ x. is_below (named p) (receiver_named made x) made ≡ true) (sym (bare_below t a (kind.Fresh c n) e refl refl refl)) (itself_below (named p) made)
  receiver_below made a b e = by (kinds.is_initialised b) refl
    where
      by : (x : Bool) → kinds.is_initialised b ≡ x → is_below (named p) (receiver_named made a) (if kinds.is_initialised b then made else name.Undefined) ≡ true
      by true f = ap (λ x. is_below (named p) (receiver_named made a) (if x then made else name.Undefined)) f ∙ ap (λ x. is_below (named p) x made) (made_receiver made a (made_below t a b e f)) ∙ itself_below (named p) made
      by false f = ap (λ x. is_below (named p) (receiver_named made a) (if x then made else name.Undefined)) f ∙ undefined_above (named p) (receiver_named made a)

  pub kinds_below_named : (made : name.Kind) (a b : Kinds) → IsBelow t a b → by_name.kinds_below (named p) (kinds_named p made a) (kinds_named p made b) ≡ true
  kinds_below_named made a b h = close (named p) (kinds_named p made a) (kinds_named p made b)
      (all_named a.registers b.registers h.long h.registers)
      (below_named p t d a.result b.result h.result)
      (below_named p t d a.caught b.caught h.caught)
      (receiver_below made a.receiver b.receiver h.receiver)

  pub state_named : (made : name.Kind) (a b : Option Kinds) → AtMost t a b → by_name.state_below (named p) (option_map (kinds_named p made) a) (option_map (kinds_named p made) b) ≡ true
  state_named made None b h = refl
  state_named made (Some a) None h = absurd h
  state_named made (Some a) (Some b) h = kinds_below_named made a b h
