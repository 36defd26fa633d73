-- Which methods a rule assumes to do nothing.
use Rattle.std.proofs.Common.{◌≡◌, ℕ, ◌+◌, ◌<◌, ◌≤◌, Bool, true, false, true≢false, nat_eq, List, [], ◌∷◌, length, set, drop, get_or, Option, Some, None, refl, sym, ap, subst, ◌∙◌, arith, inl, inr, lt-ltb, ltb-true}
use Rattle.std.specs.Prelude.{◌&&◌, ◌||◌, not, slice_get, nat_lt, if◌then◌else◌, Vec}
use Rattle.std.specs.List.{list_any}
use Rattle.std.specs.declared.alloc.Global.{Global}
use Rattle.std.proofs.lemmas.Bool.{cases_lt}
use Rattle.std.proofs.lemmas.List.{drop_more, drop_all}
use Rattle.program_model.specs.declared.pools.MethodName.{MethodName}
use Rattle.program_model.specs.declared.program.Program.{Program}
use Rattle.class_defs.proofs.Positions.{same_test, number_of, number_test, both}
use Rattle.class_defs.proofs.WellFormed.{Sound, and_left, and_right}
use Rattle.name_bridge.proofs.Tables.{method_class, method_proto}
use Rattle.dalvik_defs.specs.Naming.{type_at, named}
use Rattle.rule_text.specs.Rules.{AssumeRule}
use Rattle.rule_defs.specs.Patterns.{some_name_fits}
use Rattle.dalvik_defs.specs.Under.{defines}
use Rattle.keep_rules.specs.Table.{has}
use Rattle.keep_rules.specs.Grown.{Grew, Left}
use Rattle.keep_rules.specs.Rows.{row_in}
use Rattle.keep_rules.specs.View.{AreRows, is_method_of}
use Rattle.keep_rules.specs.Tried.{FitAmong}
use Rattle.keep_rules.specs.Silent.{some_line_names, is_silent_type, is_named, is_silent_of, is_silent_by, is_before}
use Rattle.keep_rules.proofs.GrownLemmas.{grew_none, grew_as, grew_then, grew_if, left_end, left_more}
use Rattle.keep_rules.proofs.AnyLemmas.{find_any, any_at, place_in}
use Rattle.keep_rules.proofs.ViewLemmas.{method_of_at}

-- ---- methods by their numbers

abbrev pub named_in : Program → AssumeRule → List ℕ → ℕ → Bool
named_in p k ns n = list_any (λ m. nat_eq n m && is_named p k m) ns

moved : (a b : Bool) → (b && a) ≡ (a && b)
moved true true = refl
moved true false = refl
moved false true = refl
moved false false = refl

pub numbers_more : (p : Program) (k : AssumeRule) (ns : List ℕ) (i m : ℕ) (b : Bool) (old mid new : List Bool) → i < length ns → m ≡ get_or ns i m → b ≡ is_named p k m → Left (named_in p k (drop i ns)) (named_in p k ns) old mid
    → new ≡ (if b then set mid m true else mid) → Left (named_in p k (drop (i + 1) ns)) (named_in p k ns) old new
numbers_more p k ns i m b old mid new h e is l s = left_more (named_in p k (drop i ns)) (named_in p k (drop (i + 1) ns)) (named_in p k ns) (λ n. b && nat_eq n m) old mid new
    (λ n. ap (λ xs. named_in p k xs n) (drop_more ns i m h) ∙ ap (λ x. (nat_eq n x && is_named p k x) || named_in p k (drop (i + 1) ns) n) (sym e) ∙ ap (λ x. x || named_in p k (drop (i + 1) ns) n) (ap (λ x. nat_eq n m && x) (sym is) ∙ moved b (nat_eq n m))) l (grew_if b mid new m s)

pub numbers_end : (p : Program) (k : AssumeRule) (ns : List ℕ) (i : ℕ) (old new : List Bool) → length ns ≤ i → Left (named_in p k (drop i ns)) (named_in p k ns) old new → Grew (named_in p k ns) old new
numbers_end p k ns i old new h l = left_end (named_in p k (drop i ns)) (named_in p k ns) old new (λ n. ap (λ xs. named_in p k xs n) (drop_all i ns h)) l

and_none : (b : Bool) → (b && false) ≡ false
and_none true = refl
and_none false = refl

pub numbers_none : (p : Program) (k : AssumeRule) (kind : ℕ) (ns : List ℕ) (old : List Bool) → ns ≡ [] → Grew (λ n. is_silent_type p k kind && named_in p k ns n) old old
numbers_none p k kind ns old e = grew_none (λ n. is_silent_type p k kind && named_in p k ns n) old (λ n. ap (λ l. is_silent_type p k kind && named_in p k l n) e ∙ and_none (is_silent_type p k kind))

pub numbers_unnamed : (p : Program) (k : AssumeRule) (kind : ℕ) (ns : List ℕ) (b : Bool) (old : List Bool) → b ≡ is_silent_type p k kind → b ≡ false → Grew (λ n. is_silent_type p k kind && named_in p k ns n) old old
numbers_unnamed p k kind ns b old e f = grew_none (λ n. is_silent_type p k kind && named_in p k ns n) old (λ n. ap (λ x. x && named_in p k ns n) (sym e ∙ f))

pub numbers_named : (p : Program) (k : AssumeRule) (kind : ℕ) (ns : List ℕ) (b : Bool) (old new : List Bool) → b ≡ is_silent_type p k kind → b ≡ true → Grew (named_in p k ns) old new → Grew (λ n. is_silent_type p k kind && named_in p k ns n) old new
numbers_named p k kind ns b old new e f g = grew_as (named_in p k ns) (λ n. is_silent_type p k kind && named_in p k ns n) old new (λ n. sym (ap (λ x. x && named_in p k ns n) (sym e ∙ f))) g

-- ---- methods of a type

named_has : (p : Program) (k : AssumeRule) (ns : List ℕ) (n : ℕ) → named_in p k ns n ≡ (has ns n && is_named p k n)
named_has p k [] n = refl
named_has p k (m ∷ ns) n = ap (λ x. (nat_eq n m && is_named p k m) || x) (named_has p k ns n) ∙ step (nat_eq n m) refl
  where
    step : (b : Bool) → nat_eq n m ≡ b → ((b && is_named p k m) || (has ns n && is_named p k n)) ≡ ((b || has ns n) && is_named p k n)
    step true e = ap (λ x. is_named p k x || (has ns n && is_named p k n)) (sym (number_of n m e)) ∙ absorbed (is_named p k n) (has ns n)
      where
        absorbed : (a b : Bool) → (a || (b && a)) ≡ a
        absorbed true b = refl
        absorbed false true = refl
        absorbed false false = refl
    step false e = refl

pub type_silenced : (p : Program) (k : AssumeRule) (rows : List (Vec ℕ Global)) (kind : ℕ) (ns : List ℕ) (old new : List Bool) → AreRows (is_method_of p) (length p.types) rows → kind < length p.types → ns ≡ row_in rows kind
    → Grew (λ n. is_silent_type p k kind && named_in p k ns n) old new → Grew (is_silent_of p k kind) old new
type_silenced p k rows kind ns old new r l e g = grew_as (λ n. is_silent_type p k kind && named_in p k ns n) (is_silent_of p k kind) old new
    (λ n. ap (λ x. is_silent_type p k kind && x) (named_has p k ns n ∙ ap (λ x. x && is_named p k n) (ap (λ l. has l n) e ∙ r.are kind n l))) g

pub type_unlisted : (p : Program) (k : AssumeRule) (rows : List (Vec ℕ Global)) (kind : ℕ) (old : List Bool) → AreRows (is_method_of p) (length p.types) rows → kind < length p.types → slice_get rows kind ≡ None → Grew (is_silent_of p k kind) old old
type_unlisted p k rows kind old r l e =
    type_silenced p k rows kind [] old old r l (sym (ap (λ o. elim o as (λ o. List ℕ) [ Some row ↦ row.items | None ↦ [] ]) e)) (numbers_none p k kind [] old refl)

-- ---- some types

abbrev pub silent_among : Program → AssumeRule → List ℕ → ℕ → Bool
silent_among p k ks n = list_any (λ kind. is_silent_of p k kind n) ks

pub types_more : (p : Program) (k : AssumeRule) (ks : List ℕ) (i kind : ℕ) (old mid new : List Bool) → i < length ks → kind ≡ get_or ks i kind → Left (silent_among p k (drop i ks)) (silent_among p k ks) old mid → Grew (is_silent_of p k kind) mid new
    → Left (silent_among p k (drop (i + 1) ks)) (silent_among p k ks) old new
types_more p k ks i kind old mid new h e l g = left_more (silent_among p k (drop i ks)) (silent_among p k (drop (i + 1) ks)) (silent_among p k ks) (is_silent_of p k kind) old mid new
    (λ n. ap (λ xs. silent_among p k xs n) (drop_more ks i kind h) ∙ ap (λ x. is_silent_of p k x n || silent_among p k (drop (i + 1) ks) n) (sym e)) l g

pub types_end : (p : Program) (k : AssumeRule) (ks : List ℕ) (i : ℕ) (old new : List Bool) → length ks ≤ i → Left (silent_among p k (drop i ks)) (silent_among p k ks) old new → Grew (silent_among p k ks) old new
types_end p k ks i old new h l = left_end (silent_among p k (drop i ks)) (silent_among p k ks) old new (λ n. ap (λ xs. silent_among p k xs n) (drop_all i ks h)) l

by_at : (p : Program) (k : AssumeRule) (n : ℕ) (m : MethodName) → slice_get p.methods n ≡ Some m → is_silent_by p k n ≡ (is_silent_type p k m.class && is_named p k n)
by_at p k n m e = ap (λ o. elim o as (λ o. Bool) [ Some m ↦ is_silent_type p k m.class && is_named p k n | None ↦ false ]) e

by_none : (p : Program) (k : AssumeRule) (n : ℕ) → slice_get p.methods n ≡ None → is_silent_by p k n ≡ false
by_none p k n e = ap (λ o. elim o as (λ o. Bool) [ Some m ↦ is_silent_type p k m.class && is_named p k n | None ↦ false ]) e

of_none : (p : Program) (k : AssumeRule) (kind n : ℕ) → slice_get p.methods n ≡ None → is_silent_of p k kind n ≡ false
of_none p k kind n e = ap (λ x. is_silent_type p k kind && (x && is_named p k n)) (ap (λ o. elim o as (λ o. Bool) [ Some m ↦ nat_eq kind m.class | None ↦ false ]) e) ∙ and_none (is_silent_type p k kind)

of_at : (p : Program) (k : AssumeRule) (kind n : ℕ) (m : MethodName) → slice_get p.methods n ≡ Some m → is_silent_of p k kind n ≡ (is_silent_type p k kind && (nat_eq kind m.class && is_named p k n))
of_at p k kind n m e = ap (λ x. is_silent_type p k kind && (x && is_named p k n)) (method_of_at p kind n m e)

pub types_all : (p : Program) → Sound p → (k : AssumeRule) (ks : List ℕ) (old new : List Bool) → FitAmong p k.names ks → Grew (silent_among p k ks) old new → Grew (is_silent_by p k) old new
types_all p s k ks old new fit g = grew_as (silent_among p k ks) (is_silent_by p k) old new (λ n. by n (slice_get p.methods n) refl) g
  where
    by : (n : ℕ) (o : Option MethodName) → slice_get p.methods n ≡ o → silent_among p k ks n ≡ is_silent_by p k n
    by n None e = never ks ∙ sym (by_none p k n e)
      where
        never : (ks : List ℕ) → silent_among p k ks n ≡ false
        never [] = refl
        never (j ∷ js) = ap (λ x. x || silent_among p k js n) (of_none p k j n e) ∙ never js
    by n (Some m) e = same_test (silent_among p k ks n) (is_silent_by p k n)
        (λ h. let f = find_any (λ kind. is_silent_of p k kind n) ks h in
        let parts = sym (of_at p k f.one n m e) ∙ f.passes in
        let type = and_left (is_silent_type p k f.one) (nat_eq f.one m.class && is_named p k n) parts in
        let back = and_right (is_silent_type p k f.one) (nat_eq f.one m.class && is_named p k n) parts in
        by_at p k n m e
        ∙ both (is_silent_type p k m.class) (is_named p k n) (subst (λ j. is_silent_type p k j ≡ true) (number_of f.one m.class (and_left (nat_eq f.one m.class) (is_named p k n) back)) type) (and_right (nat_eq f.one m.class) (is_named p k n) back))
        (λ h. let parts = sym (by_at p k n m e) ∙ h in
        let type = and_left (is_silent_type p k m.class) (is_named p k n) parts in
        let called = and_right (is_silent_type p k m.class) (is_named p k n) parts in
        let r = place_in ks m.class (fit.among m.class (method_class p s n m e) (and_right (not (defines (named p) (type_at p m.class))) (some_name_fits k.names (type_at p m.class)) type)) in
        any_at (λ kind. is_silent_of p k kind n) ks r.at m.class r.is
        (of_at p k m.class n m e ∙ both (is_silent_type p k m.class) (nat_eq m.class m.class && is_named p k n) type (both (nat_eq m.class m.class) (is_named p k n) (number_test m.class m.class refl) called)))

-- ---- all types

abbrev pub silent_before : Program → AssumeRule → ℕ → ℕ → Bool
silent_before p k bound n = is_before p bound n && is_silent_by p k n

before_at : (p : Program) (bound n : ℕ) (m : MethodName) → slice_get p.methods n ≡ Some m → is_before p bound n ≡ nat_lt m.class bound
before_at p bound n m e = ap (λ o. elim o as (λ o. Bool) [ Some m ↦ nat_lt m.class bound | None ↦ false ]) e

before_none : (p : Program) (bound n : ℕ) → slice_get p.methods n ≡ None → is_before p bound n ≡ false
before_none p bound n e = ap (λ o. elim o as (λ o. Bool) [ Some m ↦ nat_lt m.class bound | None ↦ false ]) e

pub all_start : (p : Program) (k : AssumeRule) (old : List Bool) → Grew (silent_before p k 0) old old
all_start p k old = grew_none (silent_before p k 0) old (λ n. ap (λ x. x && is_silent_by p k n) (by n (slice_get p.methods n) refl))
  where
    by : (n : ℕ) (o : Option MethodName) → slice_get p.methods n ≡ o → is_before p 0 n ≡ false
    by n None e = before_none p 0 n e
    by n (Some m) e = before_at p 0 n m e ∙ same_test (nat_lt m.class 0) false (λ h. let l = ltb-true m.class 0 h in absurd (omega (arith, l))) (λ h. absurd (true≢false (sym h)))

pub all_more : (p : Program) (k : AssumeRule) (kind : ℕ) (old mid new : List Bool) → Grew (silent_before p k kind) old mid → Grew (is_silent_of p k kind) mid new → Grew (silent_before p k (kind + 1)) old new
all_more p k kind old mid new a b = grew_as (λ n. silent_before p k kind n || is_silent_of p k kind n) (silent_before p k (kind + 1)) old new (λ n. by n (slice_get p.methods n) refl) (grew_then (silent_before p k kind) (is_silent_of p k kind) old mid new a b)
  where
    by : (n : ℕ) (o : Option MethodName) → slice_get p.methods n ≡ o → (silent_before p k kind n || is_silent_of p k kind n) ≡ silent_before p k (kind + 1) n
    by n None e = ap (λ x. (x && is_silent_by p k n) || is_silent_of p k kind n) (before_none p kind n e) ∙ of_none p k kind n e ∙ sym (ap (λ x. x && is_silent_by p k n) (before_none p (kind + 1) n e))
    by n (Some m) e =
        ap (λ x. (x && is_silent_by p k n) || is_silent_of p k kind n) (before_at p kind n m e)
        ∙ ap (λ x. (nat_lt m.class kind && is_silent_by p k n) || x) (of_at p k kind n m e)
        ∙ step (nat_eq kind m.class) refl
        ∙ sym (ap (λ x. x && is_silent_by p k n) (before_at p (kind + 1) n m e))
      where
        step : (b : Bool) → nat_eq kind m.class ≡ b → ((nat_lt m.class kind && is_silent_by p k n) || (is_silent_type p k kind && (b && is_named p k n))) ≡ (nat_lt m.class (kind + 1) && is_silent_by p k n)
        step true g =
            let s : kind ≡ m.class = number_of kind m.class g in
            ap (λ x. (nat_lt m.class kind && is_silent_by p k n) || x) (ap (λ j. is_silent_type p k j && is_named p k n) s ∙ sym (by_at p k n m e))
            ∙ over (nat_lt m.class kind) (is_silent_by p k n)
            ∙ sym (ap (λ x. x && is_silent_by p k n) (lt-ltb m.class (kind + 1) (omega (arith, s))))
          where
            over : (a b : Bool) → ((a && b) || b) ≡ b
            over true true = refl
            over true false = refl
            over false b = refl
        step false g =
            ap (λ x. (nat_lt m.class kind && is_silent_by p k n) || x) (and_none (is_silent_type p k kind))
            ∙ last (nat_lt m.class kind && is_silent_by p k n)
            ∙ ap (λ x. x && is_silent_by p k n) (same_test (nat_lt m.class kind) (nat_lt m.class (kind + 1)) (λ h. let l = ltb-true m.class kind h in lt-ltb m.class (kind + 1) (omega (arith, l)))
            (λ h. let l = ltb-true m.class (kind + 1) h in elim (cases_lt m.class kind) [ inl q ↦ lt-ltb m.class kind q | inr q ↦ let s : kind ≡ m.class = omega (arith, l, q) in absurd (true≢false (sym (number_test kind m.class s) ∙ g)) ]))
          where
            last : (x : Bool) → (x || false) ≡ x
            last true = refl
            last false = refl

pub all_end : (p : Program) → Sound p → (k : AssumeRule) (kind : ℕ) (old new : List Bool) → length p.types ≤ kind → Grew (silent_before p k kind) old new → Grew (is_silent_by p k) old new
all_end p s k kind old new h g = grew_as (silent_before p k kind) (is_silent_by p k) old new (λ n. by n (slice_get p.methods n) refl) g
  where
    by : (n : ℕ) (o : Option MethodName) → slice_get p.methods n ≡ o → silent_before p k kind n ≡ is_silent_by p k n
    by n None e = ap (λ x. x && is_silent_by p k n) (before_none p kind n e) ∙ sym (by_none p k n e)
    by n (Some m) e = ap (λ x. x && is_silent_by p k n) (before_at p kind n m e ∙ lt-ltb m.class kind (let l = method_class p s n m e in omega (arith, l, h)))

-- ---- a method by its number

pub proto_there : (p : Program) → Sound p → (n : ℕ) (m : MethodName) → Some m ≡ slice_get p.methods n → nat_lt m.proto (length p.protos) ≡ true
proto_there p s n m e = lt-ltb m.proto (length p.protos) (method_proto p s n m (sym e))

pub named_by : (p : Program) (k : AssumeRule) (n : ℕ) (m : MethodName) → Some m ≡ slice_get p.methods n → some_line_names p k.members m ≡ is_named p k n
named_by p k n m e = ap (λ o. elim o as (λ o. Bool) [ Some m ↦ some_line_names p k.members m | None ↦ false ]) e

pub named_none : (p : Program) (k : AssumeRule) (n : ℕ) → None ≡ slice_get p.methods n → false ≡ is_named p k n
named_none p k n e = ap (λ o. elim o as (λ o. Bool) [ Some m ↦ some_line_names p k.members m | None ↦ false ]) e
