-- What a body of a well-formed program keeps.
use Rattle.std.proofs.Common.{◌≡◌, ℕ, zero, suc, ◌+◌, ◌-◌, ◌<◌, ◌≤◌, Bool, true, false, List, [], ◌∷◌, length, Option, Some, None, inl, inr, refl, subst, arith, leb-true}
use Rattle.std.specs.Prelude.{◌&&◌, not, nat_le, slice_get, option_and_then}
use Rattle.std.specs.List.{list_all, enumerate_from}
use Rattle.std.proofs.lemmas.Bool.{cases_lt}
use Rattle.lemmas.proofs.Bools.{and_left, and_right, clash, not_true}
use Rattle.lemmas.proofs.Lists.{all_at, got_short}
use Rattle.lemmas.proofs.Options.{none_some, some_same}
use Rattle.insn_set.specs.Flow.{goes_on}
use Rattle.insn_set.specs.Spelling.{is_encodable}
use Rattle.insn_set.specs.declared.form.Insn.{Insn}
use Rattle.program_model.specs.Neighbours.{neighbours}
use Rattle.program_model.specs.OperandRules.{registers_fit, numbers_fit}
use Rattle.program_model.specs.RegionRules.{may_begin, region_fits, are_apart, regions_fit}
use Rattle.program_model.specs.BodyRules.{ends, follows, targets_fit, leaves, is_caught, insn_fits, body_fits}
use Rattle.program_model.specs.LineRules.{lines_fit}
use Rattle.program_model.specs.ValueRules.{marks_fit}
use Rattle.program_model.specs.Distinct.{own_method_key, all_differ}
use Rattle.program_model.specs.MemberRules.{fields_fit, class_of_method, is_class_number, lacks_code, takes_words, proto_of, frame_fits, code_fits, method_fits, methods_in_order, methods_fit, types_of_class_fit, source_fits, class_fits}
use Rattle.program_model.specs.ProgramRules.{is_well_formed}
use Rattle.program_model.proofs.Formed.{formed}
use Rattle.program_model.specs.Lookups.{method_at}
use Rattle.program_model.specs.declared.body.Body.{Body}
use Rattle.program_model.specs.declared.pools.MethodName.{MethodName}
use Rattle.program_model.specs.declared.program.Class.{Class}
use Rattle.program_model.specs.declared.program.Method.{Method}
use Rattle.program_model.specs.declared.program.MethodAt.{MethodAt}
use Rattle.program_model.specs.declared.program.Program.{Program}

-- an instruction at a position
pub record InsnRules (b : Body) (n : ℕ) (i : Insn) : Type 0 where
  pub registers : registers_fit i b.registers ≡ true
  pub targets : targets_fit b.insns i ≡ true
  pub next : goes_on i ≡ true → n + 1 < length b.insns

pub record BodyRules (p : Program) (b : Body) : Type 0 where
  pub begins : 0 < length b.insns
  pub insns : (n : ℕ) (i : Insn) → slice_get b.insns n ≡ Some i → InsnRules b n i
  pub regions : list_all (region_fits p b.insns) b.regions ≡ true
  pub ins : b.ins ≤ b.registers

-- what is true of all entries with their places is true of each at some place
placed : {A : Type 0} (f : ℕ × A → Bool) (xs : List A) (k n : ℕ) (x : A) → list_all f (enumerate_from k xs) ≡ true → slice_get xs n ≡ Some x → (m : ℕ) × (f (m, x) ≡ true)
placed f [] k n x h e = none_some x e
placed f (y ∷ ys) k zero x h e = (k, subst (λ z. f (k, z) ≡ true) (some_same y x e) (and_left (f (k, y)) (list_all f (enumerate_from (k + 1) ys)) h))
placed f (y ∷ ys) k (suc n) x h e = placed f ys (k + 1) n x (and_right (f (k, y)) (list_all f (enumerate_from (k + 1) ys)) h) e

begin_there : (is : List Insn) → may_begin (slice_get is 0) ≡ true → 0 < length is
begin_there [] e = clash false e refl
begin_there (i ∷ is) e = omega arith

-- the last instruction does not go on
not_last : (is : List Insn) (n : ℕ) (i : Insn) → ends (slice_get is (length is - 1)) ≡ true → slice_get is n ≡ Some i → goes_on i ≡ true → n + 1 < length is
not_last is n i e h g =
    let lt : n < length is = got_short is n i h in
    elim (cases_lt (n + 1) (length is)) [
      | inl below ↦ below
      | inr above ↦
          let s : length is - 1 ≡ n = omega (arith, lt, above) in
          let last : ends (Some i) ≡ true = subst (λ o. ends o ≡ true) h (subst (λ k. ends (slice_get is k) ≡ true) s e) in
          clash (goes_on i) g (not_true (goes_on i) last)
    ]

registers_of : (p : Program) (b : Body) (m : ℕ) (x : Insn) → insn_fits p b (m, x) ≡ true → (registers_fit x b.registers ≡ true) × (targets_fit b.insns x ≡ true)
unfolding insn_fits
registers_of p b m x h =
    let l = and_left (is_encodable x && (registers_fit x b.registers && numbers_fit x p)) (targets_fit b.insns x && (leaves m x && is_caught b.regions m x)) h in
    let r = and_right (is_encodable x && (registers_fit x b.registers && numbers_fit x p)) (targets_fit b.insns x && (leaves m x && is_caught b.regions m x)) h in
    (and_left (registers_fit x b.registers) (numbers_fit x p) (and_right (is_encodable x) (registers_fit x b.registers && numbers_fit x p) l), and_left (targets_fit b.insns x) (leaves m x && is_caught b.regions m x) r)

regions_of : (p : Program) (b : Body) → regions_fit p b.insns b.regions ≡ true → list_all (region_fits p b.insns) b.regions ≡ true
unfolding regions_fit
regions_of p b h = and_left (list_all (region_fits p b.insns) b.regions) (list_all are_apart (neighbours b.regions)) h

body_rules : (p : Program) (b : Body) → b.ins ≤ b.registers → body_fits p b ≡ true → BodyRules p b
unfolding body_fits
body_rules p b ins h =
    let outer = and_left (may_begin (slice_get b.insns 0) && ends (slice_get b.insns (length b.insns - 1))) (list_all follows (neighbours b.insns) && (list_all (insn_fits p b) (enumerate_from 0 b.insns) && regions_fit p b.insns b.regions)) h in
    let inner = and_right (may_begin (slice_get b.insns 0) && ends (slice_get b.insns (length b.insns - 1))) (list_all follows (neighbours b.insns) && (list_all (insn_fits p b) (enumerate_from 0 b.insns) && regions_fit p b.insns b.regions)) h in
    let rest = and_right (list_all follows (neighbours b.insns)) (list_all (insn_fits p b) (enumerate_from 0 b.insns) && regions_fit p b.insns b.regions) inner in
    let insns = and_left (list_all (insn_fits p b) (enumerate_from 0 b.insns)) (regions_fit p b.insns b.regions) rest in
    let last = and_right (may_begin (slice_get b.insns 0)) (ends (slice_get b.insns (length b.insns - 1))) outer in
    record {
      begins = begin_there b.insns (and_left (may_begin (slice_get b.insns 0)) (ends (slice_get b.insns (length b.insns - 1))) outer);
      insns = λ n i e.
          let one = placed (insn_fits p b) b.insns 0 n i insns e in
          let fit = registers_of p b one.0 i one.1 in
          record { registers = fit.0; targets = fit.1; next = not_last b.insns n i last e };
      regions = regions_of p b (and_right (list_all (insn_fits p b) (enumerate_from 0 b.insns)) (regions_fit p b.insns b.regions) rest);
      ins = ins;
    }

frame_room : (p : Program) (m : Method) (b : Body) → frame_fits p m b ≡ true → b.ins ≤ b.registers
unfolding frame_fits
frame_room p m b h = leb-true b.ins b.registers (and_right (takes_words p m.flags (proto_of p m.name) b.ins) (nat_le b.ins b.registers) h)

code_rules : (p : Program) (m : Method) (b : Body) → code_fits p m (Some b) ≡ true → BodyRules p b
code_rules p m b h =
    let rest = and_right (not (lacks_code m.flags)) (frame_fits p m b && (body_fits p b && lines_fit (length b.insns) m.lines)) h in
    let frame = and_left (frame_fits p m b) (body_fits p b && lines_fit (length b.insns) m.lines) rest in
    let body = and_left (body_fits p b) (lines_fit (length b.insns) m.lines) (and_right (frame_fits p m b) (body_fits p b && lines_fit (length b.insns) m.lines) rest) in
    body_rules p b (frame_room p m b frame) body

-- ---- a method of a class

named_low : (p : Program) (k n : ℕ) (o : Option MethodName) → slice_get p.methods n ≡ o → is_class_number (class_of_method o) k ≡ true → n < length p.methods
named_low p k n None e h = clash false h refl
named_low p k n (Some q) e h = got_short p.methods n q e

pub record MethodRules (p : Program) (m : Method) : Type 0 where
  pub named : m.name < length p.methods
  pub code : (b : Body) → m.body ≡ Some b → BodyRules p b

method_rules : (p : Program) (k : ℕ) (m : Method) → method_fits p k m ≡ true → MethodRules p m
unfolding method_fits
method_rules p k m h =
    let l = and_left (is_class_number (class_of_method (slice_get p.methods m.name)) k && code_fits p m m.body) (marks_fit p m.marks && list_all (marks_fit p) m.parameter_marks) h in
    let code = and_right (is_class_number (class_of_method (slice_get p.methods m.name)) k) (code_fits p m m.body) l in
    record {
      named = named_low p k m.name (slice_get p.methods m.name) refl (and_left (is_class_number (class_of_method (slice_get p.methods m.name)) k) (code_fits p m m.body) l);
      code = λ b e. code_rules p m b (subst (λ o. code_fits p m o ≡ true) e code);
    }

class_methods : (p : Program) (c : Class) → class_fits p c ≡ true → list_all (method_fits p c.name) c.methods ≡ true
unfolding class_fits methods_fit
class_methods p c h =
    let members = and_right (types_of_class_fit p c && (source_fits p c.source && marks_fit p c.marks)) (fields_fit p c.name c.fields && methods_fit p c.name c.methods) h in
    and_left (list_all (method_fits p c.name) c.methods) (list_all (methods_in_order p) (neighbours c.methods) && all_differ own_method_key c.methods) (and_right (fields_fit p c.name c.fields) (methods_fit p c.name c.methods) members)

-- the class of a method at a place
pub record Owner (p : Program) (at : MethodAt) (m : Method) : Type 0 where
  pub class : Class
  pub is_class : slice_get p.classes at.class ≡ Some class
  pub is_method : slice_get class.methods at.place ≡ Some m

pub owner_of : (p : Program) (at : MethodAt) (m : Method) → method_at p at ≡ Some m → Owner p at m
owner_of p at m e = by (slice_get p.classes at.class) refl e
  where
    by : (o : Option Class) → slice_get p.classes at.class ≡ o → option_and_then (λ c. slice_get c.methods at.place) o ≡ Some m → Owner p at m
    by None i h = none_some m h
    by (Some c) i h = record { class = c; is_class = i; is_method = h }

pub rules_at : (p : Program) → is_well_formed p ≡ true → (at : MethodAt) (m : Method) → method_at p at ≡ Some m → MethodRules p m
rules_at p h at m e =
    let o = owner_of p at m e in
    let class = all_at (class_fits p) p.classes at.class o.class (formed p h).classes o.is_class in
    method_rules p o.class.name m (all_at (method_fits p o.class.name) o.class.methods at.place m (class_methods p o.class class) o.is_method)
