-- A typing by names is one by numbers: each position that has as many registers as the code has the numbers of its kinds.
use Rattle.std.proofs.Common.{◌≡◌, ℕ, zero, suc, ◌<◌, Bool, true, false, true≢false, nat_eq, List, [], ◌∷◌, map, length, Option, Some, None, inl, inr, refl, sym, ap, ◌∙◌, subst, arith}
use Rattle.std.specs.Prelude.{not, slice_get, slice_index_or, All, if◌then◌else◌}
use Rattle.std.specs.List.{list_all}
use Rattle.std.specs.Option.{option_map}
use Rattle.std.proofs.lemmas.Bool.{cases_lt}
use Rattle.std.proofs.lemmas.Option.{slice_get-map}
use Rattle.lemmas.proofs.Bools.{not_true}
use Rattle.lemmas.proofs.Lists.{map_long}
use Rattle.class_defs.proofs.Positions.{number_of, number_test}
use Rattle.class_defs.proofs.WellFormed.{and_left, and_right}
use Rattle.insn_set.specs.declared.form.Insn.{Insn}
use Rattle.program_model.specs.OperandRules.{numbers_fit}
use Rattle.program_model.specs.declared.body.Body.{Body}
use Rattle.program_model.specs.declared.program.Class.{Class}
use Rattle.program_model.specs.declared.program.Method.{Method}
use Rattle.program_model.specs.declared.program.Program.{Program}
use Rattle.dalvik_defs.specs.Naming.{type_at, form_of, body_of, named_class, named_method, named}
use Rattle.dalvik_defs.specs.declared.forms.Form.{Form}
use Rattle.pass_defs.specs.Kinds as name
use Rattle.pass_defs.specs.Demands as asked
use Rattle.pass_defs.specs.Registers as by_name
use Rattle.pass_defs.specs.Typed as typed
use Rattle.verify.specs.declared.kinds.Kind as number
use Rattle.verify.specs.declared.kinds.Kind.TheVariants as kind
use Rattle.verify.specs.declared.setting.Setting.{Setting}
use Rattle.verify.specs.Entry.{begun}
use Rattle.verify.specs.Faults.{fault_of}
use Rattle.verify.specs.Flow.{form_after, place_at}
use Rattle.verify.specs.Frames.{Kinds}
use Rattle.verify.specs.Methods.{constructs, receiver_of}
use Rattle.verify.specs.Names.{parameters_of}
use Rattle.verify.specs.Reads.{found_at, refused}
use Rattle.verify.specs.Supers.{Finds, super_search}
use Rattle.verify.specs.Typings.{IsBelow, AtMost, Table, onward, catches, Arrives, IsTyping}
use Rattle.verify.specs.Wrong.{is_wrong}
use Rattle.verify.proofs.Entries.{begun_long}
use Rattle.verify.proofs.Wide.{form_after_long}
use Rattle.type_bridge.specs.Numbered.{is_numbered}
use Rattle.type_bridge.specs.Views.{kind_named, receiver_named, kinds_named}
use Rattle.type_bridge.proofs.Back.{numbered}
use Rattle.type_bridge.proofs.BackAfter.{leaves_back}
use Rattle.type_bridge.proofs.BackAllowed.{reads_back}
use Rattle.type_bridge.proofs.BackEdges.{goes_back, caught_back}
use Rattle.type_bridge.proofs.BackFits.{named_back}
use Rattle.type_bridge.proofs.BackFrames.{kinds_numbered, kinds_back}
use Rattle.type_bridge.proofs.BackWrong.{right_back}
use Rattle.type_bridge.proofs.Bodies.{IsCode, got_short}
use Rattle.type_bridge.proofs.Entries.{begun_named, begun_numbered}
use Rattle.type_bridge.proofs.Grounds.{IsSet}

-- ---- tables

pub place_map : {A B : Type 0} (f : Option A → Option B) → f None ≡ None → (xs : List (Option A)) (n : ℕ) → slice_index_or (map f xs) n None ≡ f (slice_index_or xs n None)
place_map f e [] n = sym e
place_map f e (x ∷ xs) zero = refl
place_map f e (x ∷ xs) (suc n) = place_map f e xs n

each_at : (n k : ℕ) (test : ℕ → Bool) → k < n → typed.each n test ≡ true → test k ≡ true
each_at zero k test l e = absurd (omega (arith, l))
each_at (suc n) k test l e = elim (cases_lt k n) [
  | inl g ↦ each_at n k test g (and_left (typed.each n test) (test n) e)
  | inr g ↦ (let q : n ≡ k = omega (arith, l, g) in subst (λ z. test z ≡ true) q (and_right (typed.each n test) (test n) e))
]

abbrev pub kept_if : Program → Bool → by_name.Kinds → Option Kinds
kept_if p true a = Some (kinds_numbered p a)
kept_if p false a = None

-- the numbers of kinds of so many registers
abbrev pub kept : Program → ℕ → Option by_name.Kinds → Option Kinds
kept p m None = None
kept p m (Some a) = kept_if p (nat_eq (length a.registers) m) a

pub record Kept (p : Program) (m : ℕ) (o : Option by_name.Kinds) (k : Kinds) : Type 0 where
  pub kinds : by_name.Kinds
  pub is : o ≡ Some kinds
  pub long : length kinds.registers ≡ m
  pub same : kinds_numbered p kinds ≡ k

kept_is : (p : Program) (m : ℕ) (o : Option by_name.Kinds) (k : Kinds) → kept p m o ≡ Some k → Kept p m o k
kept_is p m None k e = absurd (cc)
kept_is p m (Some a) k e = by (nat_eq (length a.registers) m) refl e
  where
    by : (b : Bool) → nat_eq (length a.registers) m ≡ b → kept_if p b a ≡ Some k → Kept p m (Some a) k
    by true f e = record { kinds = a; is = refl; long = number_of (length a.registers) m f; same = (let s : kinds_numbered p a ≡ k = cc in s) }
    by false f e = absurd (cc)

kept_long : (p : Program) (m : ℕ) (a : by_name.Kinds) → length a.registers ≡ m → kept p m (Some a) ≡ Some (kinds_numbered p a)
kept_long p m a e = ap (λ b. kept_if p b a) (number_test (length a.registers) m e)

module _ (s : Setting) (c : Class) (m : Method) (i : IsSet s c m) (b : Body) (code : IsCode s.program.now m b) (finds : Finds s.program.now s.class b.insns s.found.now) (x : typed.Table) where
  abbrev p : Program
  p = s.program.now

  abbrev pub table_numbered : Table
  table_numbered = map (kept p b.registers) x

  place_is : (n : ℕ) → place_at table_numbered n ≡ kept p b.registers (typed.state_at x n)
  place_is n = place_map (kept p b.registers) refl x n

  abbrev pub entry : Kinds
  entry = begun s b (receiver_of c s.class m (constructs s.tables.now m)) (parameters_of p m.name)

  abbrev entry_named : by_name.Kinds
  entry_named = typed.begun (named p) (named_class p c) (named_method p m) (body_of p b)

  registers_back : (ks : List number.Kind) → list_all (is_numbered p) ks ≡ true → map (numbered p) (map (kind_named p) ks) ≡ ks
  registers_back [] e = refl
  registers_back (k ∷ ks) e =
      ap (λ x. x ∷ map (numbered p) (map (kind_named p) ks)) (named_back p s.tables.now i.told k (and_left (is_numbered p k) (list_all (is_numbered p) ks) e))
      ∙ ap (λ l. k ∷ l) (registers_back ks (and_right (is_numbered p k) (list_all (is_numbered p) ks) e))

  abbrev own : name.Kind
  own = name.kind_of (named p) (type_at p c.name)

  entry_same : kinds_numbered p entry_named ≡ entry
  entry_same =
      ap (kinds_numbered p) (begun_named s c m i b code)
      ∙ ap (λ l. record (kinds_numbered p (kinds_named p own entry)) { registers = l }) (registers_back entry.registers (begun_numbered s c m i b code))
      ∙ by s.constructs
    where
      by : (x : Bool) → ◌≡◌ {A = Kinds}
          (record { registers = entry.registers; result = kind.Undefined; caught = kind.Undefined; receiver = numbered p (receiver_named own (if x then kind.FreshThis else kind.Undefined)) })
          (record { registers = entry.registers; result = kind.Undefined; caught = kind.Undefined; receiver = if x then kind.FreshThis else kind.Undefined })
      by true = refl
      by false = refl

  -- what arrives at a position by name arrives there by number
  pub arrived : (q : ℕ) (k : Kinds) (e : by_name.Kinds) → length k.registers ≡ b.registers → typed.arrives (named p) x (q, e) ≡ true
      → ((z : by_name.Kinds) → by_name.kinds_below (named p) e z ≡ true → IsBelow s.tables.now k (kinds_numbered p z)) → Arrives s.tables.now table_numbered q k
  arrived q k e l f g w = subst (AtMost s.tables.now (Some k)) (sym (place_is q)) (by (typed.state_at x q) f)
    where
      by : (o : Option by_name.Kinds) → by_name.state_below (named p) (Some e) o ≡ true → AtMost s.tables.now (Some k) (kept p b.registers o)
      by None f = absurd (true≢false (sym f))
      by (Some z) f =
          let r = g z f in
          let long : length z.registers ≡ b.registers = sym (map_long (numbered p) z.registers) ∙ sym r.long ∙ l in
          subst (AtMost s.tables.now (Some k)) (sym (kept_long p b.registers z long)) r

  -- a test of the position
  pub tested : (test : ℕ → Form → by_name.Kinds → Bool) (n : ℕ) (y : Insn) (a : by_name.Kinds) → slice_get b.insns n ≡ Some y → typed.state_at x n ≡ Some a
      → typed.each (length (body_of p b).forms) (λ n. typed.at_state (body_of p b) x (test n) n) ≡ true → test n (form_of p y) a ≡ true
  tested test n y a is at e =
      sym (ap (λ (o : Option Form). elim o as (λ o. Bool) [ Some f ↦ elim (typed.state_at x n) as (λ o. Bool) [ Some a ↦ test n f a | None ↦ true ] | None ↦ true ]) (slice_get-map (form_of p) b.insns n ∙ ap (option_map (form_of p)) is)
      ∙ ap (λ (z : Option by_name.Kinds). elim z as (λ o. Bool) [ Some a ↦ test n (form_of p y) a | None ↦ true ]) at)
      ∙ each_at (length (body_of p b).forms) n (λ n. typed.at_state (body_of p b) x (test n) n) (subst (λ z. n < z) (sym (map_long (form_of p) b.insns)) (got_short b.insns n y is)) e

  pub truth_of_tests : (test : ℕ → Form → by_name.Kinds → Bool) (n : ℕ) (y : Insn) (a : by_name.Kinds) → slice_get b.insns n ≡ Some y → typed.state_at x n ≡ Some a
      → typed.each (length (body_of p b).forms) (λ n. typed.at_state (body_of p b) x (λ f a. not (test n f a)) n) ≡ true → test n (form_of p y) a ≡ false
  truth_of_tests test n y a is at e = not_true (test n (form_of p y) a) (tested (λ n f a. not (test n f a)) n y a is at e)

  module _ (n : ℕ) (y : Insn) (a : by_name.Kinds) (is : slice_get b.insns n ≡ Some y) (wide : length a.registers ≡ b.registers) where
    abbrev pub left : by_name.Kinds
    left = typed.after (named p) (named_class p c) n (form_of p y) a

    fits : numbers_fit y p ≡ true
    fits = code.numbers n y is

    found : found_at s n ≡ super_search p s.class y
    found = finds n y is

    pub caught_one : (q : ℕ) (k : name.Kind) (l : number.Kind) → numbered p k ≡ l → typed.arrives (named p) x (q, record a { caught = k }) ≡ true → Arrives s.tables.now table_numbered q (record (kinds_numbered p a) { caught = l })
    caught_one q k l e f = arrived q (record (kinds_numbered p a) { caught = l }) (record a { caught = k }) (map_long (numbered p) a.registers ∙ wide) f
        (λ z g. subst (λ l. IsBelow s.tables.now (record (kinds_numbered p a) { caught = l }) (kinds_numbered p z)) e (kinds_back p s.tables.now i.told (record a { caught = k }) z g))

    module _ (reads : asked.is_allowed (named p) (named_class p c) (named_method p m) a (form_of p y) ≡ true) (right : typed.is_wrong (named p) (named_class p c) (named_method p m) a (form_of p y) ≡ false) where
      right_number : is_wrong s n (kinds_numbered p a) y ≡ false
      right_number = right_back s c m i n a y fits found right

      reads_number : refused s n (kinds_numbered p a) y ≡ None
      reads_number = reads_back s c m i n a y fits found right reads

      pub no_fault : fault_of s n (kinds_numbered p a) y ≡ None
      no_fault = ap (λ z. if z then Some 0 else refused s n (kinds_numbered p a) y) right_number ∙ reads_number

      pub goes : (q : ℕ) → typed.arrives (named p) x (q, left) ≡ true → Arrives s.tables.now table_numbered q (form_after s n y (kinds_numbered p a))
      goes q e = arrived q (form_after s n y (kinds_numbered p a)) left (form_after_long s n y (kinds_numbered p a) ∙ map_long (numbered p) a.registers ∙ wide) e
          (λ z. leaves_back s c m i n a y z fits reads right_number reads_number)

  -- ---- the table

  pub at_place : (n : ℕ) (k : Kinds) → place_at table_numbered n ≡ Some k → Kept p b.registers (typed.state_at x n) k
  at_place n k e = kept_is p b.registers (typed.state_at x n) k (sym (place_is n) ∙ e)

  pub wide_at : (n : ℕ) (k : Kinds) → place_at table_numbered n ≡ Some k → length k.registers ≡ b.registers
  wide_at n k e = let r = at_place n k e in ap (λ k. length k.registers) (sym r.same) ∙ map_long (numbered p) r.kinds.registers ∙ r.long

  pub entered_number : by_name.state_below (named p) (Some entry_named) (typed.state_at x 0) ≡ true → Arrives s.tables.now table_numbered 0 entry
  entered_number f = arrived 0 entry entry_named (begun_long s b (receiver_of c s.class m (constructs s.tables.now m)) (parameters_of p m.name)) f
      (λ z e. subst (λ k. IsBelow s.tables.now k (kinds_numbered p z)) entry_same (kinds_back p s.tables.now i.told entry_named z e))

  module _ (h : typed.IsTyping (named p) (named_class p c) (named_method p m) (body_of p b) x) where
    module _ (n : ℕ) (y : Insn) (a : by_name.Kinds) (is : slice_get b.insns n ≡ Some y) (at : typed.state_at x n ≡ Some a) (wide : length a.registers ≡ b.registers) where
      abbrev before : Kinds
      before = kinds_numbered p a

      reads_at : asked.is_allowed (named p) (named_class p c) (named_method p m) a (form_of p y) ≡ true
      reads_at = tested (λ n f a. asked.is_allowed (named p) (named_class p c) (named_method p m) a f) n y a is at h.reads

      right_at : typed.is_wrong (named p) (named_class p c) (named_method p m) a (form_of p y) ≡ false
      right_at = truth_of_tests (λ n f a. typed.is_wrong (named p) (named_class p c) (named_method p m) a f) n y a is at h.right

      edges_at : list_all (typed.arrives (named p) x) (typed.edges (named p) (named_class p c) (body_of p b) n (form_of p y) a) ≡ true
      edges_at = tested (λ n f a. list_all (typed.arrives (named p) x) (typed.edges (named p) (named_class p c) (body_of p b) n f a)) n y a is at h.edges

      abbrev Goes : ℕ → Type 0
      Goes q = Arrives s.tables.now table_numbered q (form_after s n y before)

      abbrev Caught : ℕ × number.Kind → Type 0
      Caught k = Arrives s.tables.now table_numbered k.0 (record before { caught = k.1 })

      fault_at : fault_of s n before y ≡ None
      fault_at = no_fault n y a is wide reads_at right_at

      goes_at : All Goes (onward y n)
      goes_at = goes_back s c m i b n y a (left n y a is wide) (typed.arrives (named p) x) Goes Caught (goes n y a is wide reads_at right_at) (caught_one n y a is wide) edges_at

      caught_at : All Caught (catches s.tables.now b y n)
      caught_at = caught_back s c m i b n y a (left n y a is wide) (typed.arrives (named p) x) Goes Caught (goes n y a is wide reads_at right_at) (caught_one n y a is wide) edges_at

    pub typing_numbered : IsTyping s b entry table_numbered
    typing_numbered = record {
      long = map_long (kept p b.registers) x ∙ h.long ∙ map_long (form_of p) b.insns;
      wide = wide_at;
      begins = entered_number h.entry;
      onward = λ n y k is at. let r = at_place n k at in subst (λ k. All (λ q. Arrives s.tables.now table_numbered q (form_after s n y k)) (onward y n)) r.same (goes_at n y r.kinds is r.is r.long);
      caught = λ n y k is at. let r = at_place n k at in subst (λ k. All (λ z. Arrives s.tables.now table_numbered z.0 (record k { caught = z.1 })) (catches s.tables.now b y n)) r.same (caught_at n y r.kinds is r.is r.long);
      reads = λ n y k is at. let r = at_place n k at in subst (λ k. fault_of s n k y ≡ None) r.same (fault_at n y r.kinds is r.is r.long);
    }
