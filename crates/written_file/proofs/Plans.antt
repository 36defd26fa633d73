-- The classes of the written program are those of the plans, and each stands behind those above it.
use Rattle.std.proofs.Common.{◌≡◌, ◌≤◌, ◌<◌, ◌+◌, inl, inr, ℕ, zero, suc, Bool, true, false, List, [], ◌∷◌, ◌++◌, length, map, refl, sym, ap, subst, ◌∙◌, arith, Option, Some, None, ltb-true}
use Rattle.std.specs.Prelude.{nat_eq, slice_get, ◌||◌}
use Rattle.std.specs.List.{flat_map, list_any, list_all, AllByRecursion}
use Rattle.std.proofs.lemmas.Bool.{eqb-true, eq-eqb, and_parts}
use Rattle.lemmas.proofs.Options.{some_same}
use Rattle.lemmas.proofs.Bools.{clash, or_left, or_right, neither_of}
use Rattle.dex_pools.specs.declared.interner.Interner.{Interner}
use Rattle.dex_pools.specs.declared.used.Named.{Named}
use Rattle.dex_pools.specs.declared.used.Named.TheVariants as named
use Rattle.dex_pools.specs.Interned.{IsInterned}
use Rattle.dex_pools.specs.Written.{renumbered}
use Rattle.dex_pools.specs.Used.{class_names, program_names, kind_names}
use Rattle.dex_pools.specs.Numbering.{used_in, type_key}
use Rattle.program_model.specs.declared.pass.Renumber.{Renumber}
use Rattle.program_model.specs.declared.program.Class.{Class}
use Rattle.program_model.specs.declared.program.Program.{Program}
use Rattle.program_model.specs.Texts.{has_type}
use Rattle.class_defs.specs.ClassGraph.{IsAbove}
use Rattle.dex_write.specs.Order.{classes_at}
use Rattle.dex_write.specs.Plans.{Plan}
use Rattle.dex_write.specs.Lists.{class_use}
use Rattle.dex_write.specs.Written.{ArePlans}
use Rattle.dex_defs.specs.Written.{entries, new_type, written_class, class_order, written_by}
use Rattle.write_laws.specs.Used.{IsUsed, IsShort}
use Rattle.write_laws.proofs.NamesOrdering.{AsMany, used_marked}
use Rattle.write_laws.proofs.Closed.{names_used}
use Rattle.write_laws.proofs.Ascending.{one_number}
use Rattle.written_file.proofs.Fit.{FitsClass}
use Rattle.written_file.proofs.In.{In, in_flat, in_got, all_in}
use Rattle.written_file.specs.Behind.{AllBehind}
use Rattle.written_file.proofs.Places.{has}
use Rattle.written_file.proofs.Order.{has_append}

-- ---- the classes of the plans

pub classes_written : (r : Renumber) (p : Program) (places : List ℕ) → entries (written_class r p) p.classes places ≡ map (written_class r p) (flat_map (classes_at p) places)
classes_written r p [] = refl
classes_written r p (k ∷ ks) = by_class (slice_get p.classes k) refl (classes_written r p ks)
  where
    by_class : (o : Option Class) → slice_get p.classes k ≡ o → entries (written_class r p) p.classes ks ≡ map (written_class r p) (flat_map (classes_at p) ks) → entries (written_class r p) p.classes (k ∷ ks) ≡ map (written_class r p) (flat_map (classes_at p) (k ∷ ks))
    by_class None e rest = rw e rest
    by_class (Some c) e rest = rw e (ap (λ (l : List Class). written_class r p c ∷ l) rest)

pub plans_many : (p : Program) (r : Renumber) (cs : List Class) (plans : List Plan) → ArePlans p r cs plans → length plans ≡ length cs
plans_many p r [] [] h = refl
plans_many p r [] (plan ∷ plans) h = absurd h
plans_many p r (c ∷ cs) [] h = absurd h
plans_many p r (c ∷ cs) (plan ∷ plans) h = ap suc (plans_many p r cs plans h.1)

pub classes_many : (p : Program) (r : Renumber) (cs : List Class) (plans : List Plan) → ArePlans p r cs plans → length (map (written_class r p) cs) ≡ length plans
classes_many p r [] [] h = refl
classes_many p r [] (plan ∷ plans) h = absurd h
classes_many p r (c ∷ cs) [] h = absurd h
classes_many p r (c ∷ cs) (plan ∷ plans) h = ap suc (classes_many p r cs plans h.1)

pub plans_use : (p : Program) (r : Renumber) (cs : List Class) (plans : List Plan) → ArePlans p r cs plans → map (class_use r.types.items) plans ≡ map (λ c. c.interfaces) (map (written_class r p) cs)
plans_use p r [] [] h = refl
plans_use p r [] (plan ∷ plans) h = absurd h
plans_use p r (c ∷ cs) [] h = absurd h
plans_use p r (c ∷ cs) (plan ∷ plans) h =
    let own : class_use r.types.items plan ≡ map (new_type r) c.interfaces = ap (λ (x : Class). map (renumbered r.types.items) x.interfaces) h.0.class in
    ap (λ (l : List ℕ). l ∷ map (class_use r.types.items) plans) own ∙ ap (λ (l : List (List ℕ)). map (new_type r) c.interfaces ∷ l) (plans_use p r cs plans h.1)

-- ---- entries and their numbers

pub record Entry {X Y : Type 0} (f : X → Y) (table : List X) (order : List ℕ) (k : ℕ) (y : Y) : Type 0 where
  pub n : ℕ
  pub x : X
  pub stands : slice_get order k ≡ Some n
  pub is : slice_get table n ≡ Some x
  pub made : f x ≡ y

pub entry_at : {X Y : Type 0} (f : X → Y) (table : List X) (order : List ℕ) (k : ℕ) (y : Y) → AllByRecursion (λ n. n < length table) order → slice_get (entries f table order) k ≡ Some y → Entry f table order k y
entry_at f table [] k y all e = absurd cc
entry_at {X = X} {Y = Y} f table (m ∷ ms) k y all e = by_entry (slice_get table m) refl all k e (λ j g. entry_at f table ms j y all.1 g)
  where
    by_place : (x : X) → slice_get table m ≡ Some x → (k : ℕ) → slice_get (f x ∷ entries f table ms) k ≡ Some y → ((j : ℕ) → slice_get (entries f table ms) j ≡ Some y → Entry f table ms j y) → Entry f table (m ∷ ms) k y
    by_place x t zero g on = record { n = m; x = x; stands = refl; is = t; made = some_same (f x) y g }
    by_place x t (suc j) g on = let s : Entry f table ms j y = on j g in record { n = s.n; x = s.x; stands = s.stands; is = s.is; made = s.made }

    past : (table : List X) (m : ℕ) → slice_get table m ≡ None → length table ≤ m
    past [] m g = omega arith
    past (x ∷ xs) zero g = absurd cc
    past (x ∷ xs) (suc m) g = omega (arith, past xs m g)

    by_entry : (o : Option X) → slice_get table m ≡ o → AllByRecursion (λ n. n < length table) (m ∷ ms) → (k : ℕ) → slice_get (entries f table (m ∷ ms)) k ≡ Some y → ((j : ℕ) → slice_get (entries f table ms) j ≡ Some y → Entry f table ms j y) → Entry f table (m ∷ ms) k y
    by_entry None t all k g on = absurd (omega (arith, all.0, past table m t))
    by_entry (Some x) t all k g on = by_place x t k (rw t at g) on

-- ---- order

pub behind_inside : (p : Program) (before xs : List ℕ) → AllBehind p before xs → AllByRecursion (λ n. n < length p.classes) xs
behind_inside p before [] h = tt
behind_inside p before (x ∷ xs) h = (h.0.inside, behind_inside p (before ++ x ∷ []) xs h.1)

fresh_at : (p : Program) (before xs : List ℕ) (j m : ℕ) → AllBehind p before xs → slice_get xs j ≡ Some m → has m before ≡ false
fresh_at p before [] j m h e = absurd cc
fresh_at p before (x ∷ xs) zero m h e = subst (λ (k : ℕ). has k before ≡ false) (some_same x m e) h.0.once
fresh_at p before (x ∷ xs) (suc j) m h e = (neither_of (has m before) (has m (x ∷ [])) (sym (has_append m before (x ∷ [])) ∙ fresh_at p (before ++ x ∷ []) xs j m h.1 e)).0

above_before : (p : Program) (before xs : List ℕ) (k n j m : ℕ) → AllBehind p before xs → has m before ≡ false → slice_get xs k ≡ Some n → slice_get xs j ≡ Some m → IsAbove p n m → j < k
above_before p before [] k n j m h f e g a = absurd cc
above_before p before (x ∷ xs) zero n j m h f e g a = clash (has m before) (h.0.above m (subst (λ (c : ℕ). IsAbove p c m) (sym (some_same x n e)) a)) f
above_before p before (x ∷ xs) (suc k) n zero m h f e g a = omega arith
above_before p before (x ∷ xs) (suc k) n (suc j) m h f e g a = omega (arith, above_before p (before ++ x ∷ []) xs k n j m h.1 (fresh_at p (before ++ x ∷ []) xs j m h.1 g) e g a)

-- ---- types that are used

pub class_used : (p : Program) (k : ℕ) (c : Class) → slice_get p.classes k ≡ Some c → (n : Named) → In n (class_names c) → IsUsed (used_in p) n
class_used p k c e n i = all_in (IsUsed (used_in p)) n (program_names p) (names_used p) (in_flat class_names n c p.classes (in_got p.classes k c e) i)

interface_named : (kinds : List ℕ) (k : ℕ) → In k kinds → In (named.Kind k) (flat_map kind_names kinds)
interface_named [] k i = absurd i
interface_named (x ∷ xs) k (inl e) = inl (ap (λ (n : ℕ). named.Kind n) e)
interface_named (x ∷ xs) k (inr i) = inr (interface_named xs k i)

names_left : (n : Named) (xs ys : List Named) → In n xs → In n (xs ++ ys)
names_left n [] ys i = absurd i
names_left n (x ∷ xs) ys (inl e) = inl e
names_left n (x ∷ xs) ys (inr i) = inr (names_left n xs ys i)

pub named_name : (c : Class) → In (named.Kind c.name) (class_names c)
unfolding class_names
named_name c = inl refl

pub named_super : (c : Class) → In (named.Kind c.superclass) (class_names c)
unfolding class_names
named_super c = inr (inl refl)

named_interface : (c : Class) (k : ℕ) → In k c.interfaces → In (named.Kind k) (class_names c)
unfolding class_names
named_interface c k i = inr (inr (names_left (named.Kind k) (flat_map kind_names c.interfaces) _ (interface_named c.interfaces k i)))

module _ (p : Program) (i : Interner) (few : IsShort p) (h : IsInterned p i) where
  -- types of the table that are used
  abbrev pub UsesKind : ℕ → Type 0
  UsesKind n = (has_type p n ≡ true) × IsUsed (used_in p) (named.Kind n)

  same_kind : (a b : ℕ) → UsesKind a → UsesKind b → nat_eq (new_type i.numbers a) (new_type i.numbers b) ≡ true → nat_eq a b ≡ true
  same_kind a b x y e =
      let many : AsMany p (used_in p) = used_marked p in
      eq-eqb a b (one_number (used_in p).types (type_key i.numbers.strings.items p.types) (length p.types) i.order.types.items i.numbers.types.items h.types many.types few.types a b (ltb-true a (length p.types) x.0, x.1) (ltb-true b (length p.types) y.0, y.1) (eqb-true (new_type i.numbers a) (new_type i.numbers b) e))

  same_kinds : (kinds : List ℕ) (b : ℕ) → AllByRecursion UsesKind kinds → UsesKind b → list_any (λ kind. nat_eq kind (new_type i.numbers b)) (map (new_type i.numbers) kinds) ≡ true → list_any (λ kind. nat_eq kind b) kinds ≡ true
  same_kinds [] b all y e = clash false e refl
  same_kinds (k ∷ ks) b all y e = by_head (nat_eq (new_type i.numbers k) (new_type i.numbers b)) refl (λ g. same_kinds ks b all.1 y g)
    where
      by_head : (t : Bool) → nat_eq (new_type i.numbers k) (new_type i.numbers b) ≡ t → (list_any (λ kind. nat_eq kind (new_type i.numbers b)) (map (new_type i.numbers) ks) ≡ true → list_any (λ kind. nat_eq kind b) ks ≡ true) → list_any (λ kind. nat_eq kind b) (k ∷ ks) ≡ true
      by_head true t on = or_left (nat_eq k b) (list_any (λ kind. nat_eq kind b) ks) (same_kind k b all.0 y t)
      by_head false t on = or_right (nat_eq k b) (list_any (λ kind. nat_eq kind b) ks) (on (subst (λ (x : Bool). (x || list_any (λ kind. nat_eq kind (new_type i.numbers b)) (map (new_type i.numbers) ks)) ≡ true) t e))

  kinds_used : (k : ℕ) (c : Class) → FitsClass p c → slice_get p.classes k ≡ Some c → AllByRecursion UsesKind (c.superclass ∷ c.interfaces)
  kinds_used k c fit e =
      let both = and_parts (has_type p c.superclass) (list_all (has_type p) c.interfaces) fit.above in
      ((both.0, class_used p k c e (named.Kind c.superclass) (named_super c)), others c.interfaces both.1 (λ j i. i))
    where
      others : (ks : List ℕ) → list_all (has_type p) ks ≡ true → ((j : ℕ) → In j ks → In j c.interfaces) → AllByRecursion UsesKind ks
      others [] t on = tt
      others (j ∷ js) t on = let both = and_parts (has_type p j) (list_all (has_type p) js) t in ((both.0, class_used p k c e (named.Kind j) (named_interface c j (on j (inl refl)))), others js both.1 (λ m l. on m (inr l)))

  -- classes of the written program that stand above one another are those that do in the program
  above_kept : (a b : ℕ) (c u : Class) → FitsClass p c → FitsClass p u → slice_get p.classes a ≡ Some c → slice_get p.classes b ≡ Some u
      → (nat_eq (new_type i.numbers c.superclass) (new_type i.numbers u.name) || list_any (λ kind. nat_eq kind (new_type i.numbers u.name)) (map (new_type i.numbers) c.interfaces)) ≡ true → IsAbove p a b
  above_kept a b c u fit own e g n =
      let kinds : AllByRecursion UsesKind (c.superclass ∷ c.interfaces) = kinds_used a c fit e in
      let name : UsesKind u.name = (own.name, class_used p b u g (named.Kind u.name) (named_name u)) in
      record { c = c; u = u; is_class = e; is_upper = g; names = same_kinds (c.superclass ∷ c.interfaces) u.name kinds name n }

  pub written_behind : (places : List ℕ) → ((k : ℕ) (c : Class) → slice_get p.classes k ≡ Some c → FitsClass p c) → class_order p ≡ places → AllBehind p [] places → (class upper : ℕ) → IsAbove (written_by i p) class upper → upper < class
  written_behind places fit same behind class upper a =
      let all : AllByRecursion (λ n. n < length p.classes) places = behind_inside p [] places behind in
      let low : Entry (written_class i.numbers p) p.classes places class a.c = entry_at (written_class i.numbers p) p.classes places class a.c all (subst (λ l. slice_get (entries (written_class i.numbers p) p.classes l) class ≡ Some a.c) same a.is_class) in
      let high : Entry (written_class i.numbers p) p.classes places upper a.u = entry_at (written_class i.numbers p) p.classes places upper a.u all (subst (λ l. slice_get (entries (written_class i.numbers p) p.classes l) upper ≡ Some a.u) same a.is_upper) in
      let names : (nat_eq (new_type i.numbers low.x.superclass) (new_type i.numbers high.x.name) || list_any (λ kind. nat_eq kind (new_type i.numbers high.x.name)) (map (new_type i.numbers) low.x.interfaces)) ≡ true = subst (λ (x : Class). (nat_eq (new_type i.numbers low.x.superclass) x.name || list_any (λ kind. nat_eq kind x.name) (map (new_type i.numbers) low.x.interfaces)) ≡ true) (sym high.made) (subst (λ (x : Class). (nat_eq x.superclass a.u.name || list_any (λ kind. nat_eq kind a.u.name) x.interfaces) ≡ true) (sym low.made) a.names) in
      above_before p [] places class low.n upper high.n behind refl low.stands high.stands (above_kept low.n high.n low.x high.x (fit low.n low.x low.is) (fit high.n high.x high.is) low.is high.is names)
