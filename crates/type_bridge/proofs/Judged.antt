-- A typing by numbers is one by names.
use Rattle.std.proofs.Common.{◌≡◌, ℕ, zero, suc, ◌<◌, Bool, true, false, List, [], ◌∷◌, map, length, Option, Some, None, refl, sym, ap, ◌∙◌, subst, arith}
use Rattle.std.specs.Prelude.{not, slice_get}
use Rattle.std.specs.List.{list_all}
use Rattle.std.specs.Option.{option_map}
use Rattle.std.proofs.lemmas.Option.{slice_get-map}
use Rattle.lemmas.proofs.Lists.{map_long}
use Rattle.class_defs.proofs.Positions.{both}
use Rattle.insn_set.specs.declared.form.Insn.{Insn}
use Rattle.program_model.specs.OperandRules.{numbers_fit}
use Rattle.program_model.specs.declared.body.Body.{Body}
use Rattle.program_model.specs.declared.program.Class.{Class}
use Rattle.program_model.specs.declared.program.Method.{Method}
use Rattle.program_model.specs.declared.program.Program.{Program}
use Rattle.dalvik_defs.specs.Naming.{type_at, form_of, body_of, named_class, named_method, named}
use Rattle.dalvik_defs.specs.declared.forms.Form.{Form}
use Rattle.pass_defs.specs.Kinds as name
use Rattle.pass_defs.specs.Registers as by_name
use Rattle.pass_defs.specs.Demands as asked
use Rattle.pass_defs.specs.Typed as typed
use Rattle.verify.specs.declared.kinds.Kind as number
use Rattle.verify.specs.declared.setting.Setting.{Setting}
use Rattle.verify.specs.Entry.{begun}
use Rattle.verify.specs.Faults.{fault_of}
use Rattle.verify.specs.Flow.{form_after, place_at}
use Rattle.verify.specs.Frames.{Kinds}
use Rattle.verify.specs.Methods.{constructs, receiver_of}
use Rattle.verify.specs.Names.{parameters_of}
use Rattle.verify.specs.Reads.{found_at, refused}
use Rattle.verify.specs.Wrong.{is_wrong}
use Rattle.verify.specs.Supers.{Finds, super_search}
use Rattle.verify.specs.Typings.{IsBelow, AtMost, Table, Arrives, IsTyping}
use Rattle.verify.proofs.Reading.{no_fault}
use Rattle.type_bridge.specs.Views.{kind_named, kinds_named, table_named}
use Rattle.type_bridge.proofs.Frames.{kinds_below_named}
use Rattle.type_bridge.proofs.Grounds.{IsSet}
use Rattle.type_bridge.proofs.Allowed.{allowed}
use Rattle.type_bridge.proofs.Wrong.{right}
use Rattle.type_bridge.proofs.After.{leaves}
use Rattle.type_bridge.proofs.Bodies.{IsCode}
use Rattle.type_bridge.proofs.Entries.{begun_named}
use Rattle.type_bridge.proofs.Edges.{edges_named}

-- ---- lists

tests : (n : ℕ) (test : ℕ → Bool) → ((k : ℕ) → k < n → test k ≡ true) → typed.each n test ≡ true
tests zero test h = refl
tests (suc n) test h = both (typed.each n test) (test n) (tests n test (λ k l. h k (omega (arith, l)))) (h n (omega arith))

pub state_is : (p : Program) (made : name.Kind) (x : Table) (n : ℕ) → typed.state_at (table_named p made x) n ≡ option_map (kinds_named p made) (place_at x n)
state_is p made [] n = refl
state_is p made (o ∷ x) zero = refl
state_is p made (o ∷ x) (suc n) = state_is p made x n

-- ---- typings

module _ (s : Setting) (c : Class) (m : Method) (i : IsSet s c m) (b : Body) (code : IsCode s.program.now m b) (finds : Finds s.program.now s.class b.insns s.found.now) (x : Table) where
  abbrev own : name.Kind
  own = name.kind_of (named s.program.now) (type_at s.program.now c.name)

  abbrev pub table : typed.Table
  table = table_named s.program.now own x

  abbrev entry : Kinds
  entry = begun s b (receiver_of c s.class m (constructs s.tables.now m)) (parameters_of s.program.now m.name)

  module _ (long : length x ≡ length b.insns) where
    -- what arrives at a position by number arrives there by name
    pub arrived : (q : ℕ) (k : Kinds) (a : by_name.Kinds) → q < length b.insns → Arrives s.tables.now x q k → ((b : Kinds) → IsBelow s.tables.now k b → by_name.kinds_below (named s.program.now) a (kinds_named s.program.now own b) ≡ true) → typed.arrives (named s.program.now) table (q, a) ≡ true
    arrived q k a l e f = ap (by_name.state_below (named s.program.now) (Some a)) (state_is s.program.now own x q) ∙ by (place_at x q) (e (subst (λ n. q < n) (sym long) l))
      where
        by : (o : Option Kinds) → AtMost s.tables.now (Some k) o → by_name.state_below (named s.program.now) (Some a) (option_map (kinds_named s.program.now own) o) ≡ true
        by None z = absurd z
        by (Some b) z = f b z

    pub entered_named : Arrives s.tables.now x 0 entry → by_name.state_below (named s.program.now) (Some (typed.begun (named s.program.now) (named_class s.program.now c) (named_method s.program.now m) (body_of s.program.now b))) (typed.state_at table 0) ≡ true
    entered_named e = ap (λ k. by_name.state_below (named s.program.now) (Some k) (typed.state_at table 0)) (begun_named s c m i b code) ∙ arrived 0 entry (kinds_named s.program.now own entry) code.some e (λ b f. kinds_below_named s.program.now s.tables.now i.told own entry b f)

    module _ (n : ℕ) (y : Insn) (a : Kinds) (is : slice_get b.insns n ≡ Some y) where
      fits : numbers_fit y s.program.now ≡ true
      fits = code.numbers n y is

      found : found_at s n ≡ super_search s.program.now s.class y
      found = finds n y is

      abbrev pub left : by_name.Kinds
      left = typed.after (named s.program.now) (named_class s.program.now c) n (form_of s.program.now y) (kinds_named s.program.now own a)

      abbrev caught_as : name.Kind → by_name.Kinds
      caught_as k = record (kinds_named s.program.now own a) { caught = k }

      pub caught_one : (q : ℕ) (k : number.Kind) → q < length b.insns → Arrives s.tables.now x q (record a { caught = k }) → typed.arrives (named s.program.now) table (q, caught_as (kind_named s.program.now k)) ≡ true
      caught_one q k l e = arrived q (record a { caught = k }) (caught_as (kind_named s.program.now k)) l e (λ b f. kinds_below_named s.program.now s.tables.now i.told own (record a { caught = k }) b f)

      module _ (fine : fault_of s n a y ≡ None) where
        faultless : (is_wrong s n a y ≡ false) × (refused s n a y ≡ None)
        faultless = no_fault s n a y fine

        pub reads_at : asked.is_allowed (named s.program.now) (named_class s.program.now c) (named_method s.program.now m) (kinds_named s.program.now own a) (form_of s.program.now y) ≡ true
        reads_at = allowed s c m i own n a y fits found faultless.1

        pub right_at : not (typed.is_wrong (named s.program.now) (named_class s.program.now c) (named_method s.program.now m) (kinds_named s.program.now own a) (form_of s.program.now y)) ≡ true
        right_at = ap not (right s c m i n a y fits found faultless.0)

        pub goes_named : (q : ℕ) → q < length b.insns → Arrives s.tables.now x q (form_after s n y a) → typed.arrives (named s.program.now) table (q, left) ≡ true
        goes_named q l e = arrived q (form_after s n y a) left l e (λ b. leaves s c m i n a y b fits faultless.0 faultless.1)

  -- a test of each position
  pub at_positions : (test : ℕ → Form → by_name.Kinds → Bool) → ((n : ℕ) (y : Insn) (a : Kinds) → slice_get b.insns n ≡ Some y → place_at x n ≡ Some a → test n (form_of s.program.now y) (kinds_named s.program.now own a) ≡ true)
      → typed.each (length (body_of s.program.now b).forms) (λ n. typed.at_state (body_of s.program.now b) table (test n) n) ≡ true
  at_positions test f = tests (length (body_of s.program.now b).forms) (λ n. typed.at_state (body_of s.program.now b) table (test n) n) (λ n l.
      ap (λ (o : Option Form). elim o as (λ o. Bool) [ Some f ↦ elim (typed.state_at table n) as (λ o. Bool) [ Some a ↦ test n f a | None ↦ true ] | None ↦ true ]) (slice_get-map (form_of s.program.now) b.insns n)
      ∙ ap (λ (z : Option by_name.Kinds). elim (option_map (form_of s.program.now) (slice_get b.insns n)) as (λ o. Bool) [ Some f ↦ elim z as (λ o. Bool) [ Some a ↦ test n f a | None ↦ true ] | None ↦ true ]) (state_is s.program.now own x n)
      ∙ by n (slice_get b.insns n) (place_at x n) refl refl)
    where
      by : (n : ℕ) (o : Option Insn) (z : Option Kinds) → slice_get b.insns n ≡ o → place_at x n ≡ z
          → elim (option_map (form_of s.program.now) o) as (λ o. Bool) [ Some f ↦ elim (option_map (kinds_named s.program.now own) z) as (λ o. Bool) [ Some a ↦ test n f a | None ↦ true ] | None ↦ true ] ≡ true
      by n None z g k = refl
      by n (Some y) None g k = refl
      by n (Some y) (Some a) g k = f n y a g k

  pub long_named : length x ≡ length b.insns → length table ≡ length (body_of s.program.now b).forms
  long_named e = map_long (option_map (kinds_named s.program.now own)) x ∙ e ∙ sym (map_long (form_of s.program.now) b.insns)

  module _ (h : IsTyping s b entry x) where
    edges_at : (n : ℕ) (y : Insn) (a : Kinds) → slice_get b.insns n ≡ Some y → place_at x n ≡ Some a
        → list_all (typed.arrives (named s.program.now) table) (typed.edges (named s.program.now) (named_class s.program.now c) (body_of s.program.now b) n (form_of s.program.now y) (kinds_named s.program.now own a)) ≡ true
    edges_at n y a is at = edges_named s c m i b n y (kinds_named s.program.now own a) (left h.long n y a is) (typed.arrives (named s.program.now) table) code is (λ q. Arrives s.tables.now x q (form_after s n y a)) (λ k. Arrives s.tables.now x k.0 (record a { caught = k.1 }))
        (goes_named h.long n y a is (h.reads n y a is at)) (caught_one h.long n y a is) (h.onward n y a is at) (h.caught n y a is at)

    pub typing_named : typed.IsTyping (named s.program.now) (named_class s.program.now c) (named_method s.program.now m) (body_of s.program.now b) table
    typing_named = record {
      long = long_named h.long;
      entry = entered_named h.long h.begins;
      reads = at_positions (λ n f a. asked.is_allowed (named s.program.now) (named_class s.program.now c) (named_method s.program.now m) a f) (λ n y a is at. reads_at h.long n y a is (h.reads n y a is at));
      right = at_positions (λ n f a. not (typed.is_wrong (named s.program.now) (named_class s.program.now c) (named_method s.program.now m) a f)) (λ n y a is at. right_at h.long n y a is (h.reads n y a is at));
      edges = at_positions (λ n f a. list_all (typed.arrives (named s.program.now) table) (typed.edges (named s.program.now) (named_class s.program.now c) (body_of s.program.now b) n f a)) edges_at;
    }
