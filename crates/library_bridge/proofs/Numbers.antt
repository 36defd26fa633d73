-- The numbers of the methods that the code of a well-formed program calls are those of its table, and class names aren't empty.
use Rattle.std.proofs.Common.{◌≡◌, ℕ, zero, suc, ◌+◌, ◌<◌, true, false, List, [], ◌∷◌, length, Some, sym, ap, ◌∙◌, arith}
use Rattle.std.specs.Prelude.{◌&&◌, ◌-◌, not, slice_get}
use Rattle.std.specs.List.{list_all, enumerate_from}
use Rattle.insn_set.specs.Spelling.{is_encodable}
use Rattle.insn_set.specs.declared.form.Insn.{Insn}
use Rattle.insn_set.specs.declared.form.Insn.TheVariants as insn
use Rattle.insn_set.specs.declared.ops.InvokeKind.{InvokeKind}
use Rattle.program_model.specs.declared.body.Body.{Body}
use Rattle.program_model.specs.declared.program.Method.{Method}
use Rattle.program_model.specs.declared.program.Class.{Class}
use Rattle.program_model.specs.declared.program.Program.{Program}
use Rattle.program_model.specs.Neighbours.{neighbours}
use Rattle.program_model.specs.Distinct.{own_method_key, all_differ}
use Rattle.program_model.specs.OperandRules.{registers_fit, numbers_fit}
use Rattle.program_model.specs.RegionRules.{may_begin, regions_fit}
use Rattle.program_model.specs.BodyRules.{ends, follows, targets_fit, leaves, is_caught, insn_fits, body_fits}
use Rattle.program_model.specs.LineRules.{lines_fit}
use Rattle.program_model.specs.ValueRules.{marks_fit}
use Rattle.program_model.specs.Texts.{has_type, first_unit, type_text, letter_of, is_class}
use Rattle.program_model.specs.MemberRules.{is_class_type, is_object, lacks_code, is_class_number, class_of_method, frame_fits, code_fits, method_fits, methods_in_order, methods_fit, fields_fit, types_of_class_fit, source_fits, class_fits}
use Rattle.class_defs.proofs.WellFormed.{all_at, below, and_left, and_right, Sound}

enumerated : {A : Type 0} (x : A) (xs : List A) (n i : ℕ) → slice_get xs i ≡ Some x → slice_get (enumerate_from n xs) i ≡ Some (n + i, x)
enumerated x [] n i e = cc
enumerated x (y ∷ ys) n zero e = let z : y ≡ x = cc in ap (λ w. Some (n, w)) z ∙ ap (λ m. Some (m, x)) (let v : n ≡ n + 0 = omega arith in v)
enumerated x (y ∷ ys) n (suc i) e = enumerated x ys (n + 1) i e ∙ ap (λ m. Some (m, x)) (let v : (n + 1) + i ≡ n + suc i = omega arith in v)

code_fit : (p : Program) (c : Class) (i : ℕ) (m : Method) → class_fits p c ≡ true → slice_get c.methods i ≡ Some m → code_fits p m m.body ≡ true
unfolding class_fits methods_fit method_fits
code_fit p c i m h at =
    let two = and_right (types_of_class_fit p c && (source_fits p c.source && marks_fit p c.marks)) (fields_fit p c.name c.fields && methods_fit p c.name c.methods) h in
    let ms = and_right (fields_fit p c.name c.fields) (methods_fit p c.name c.methods) two in
    let all = and_left (list_all (method_fits p c.name) c.methods) (list_all (methods_in_order p) (neighbours c.methods) && all_differ own_method_key c.methods) ms in
    let one = all_at (method_fits p c.name) c.methods i m all at in
    and_right (is_class_number (class_of_method (slice_get p.methods m.name)) c.name) (code_fits p m m.body)
    (and_left (is_class_number (class_of_method (slice_get p.methods m.name)) c.name && code_fits p m m.body) (marks_fit p m.marks && list_all (marks_fit p) m.parameter_marks) one)

body_fit : (p : Program) (m : Method) (b : Body) → code_fits p m (Some b) ≡ true → body_fits p b ≡ true
body_fit p m b h = and_left (body_fits p b) (lines_fit (length b.insns) m.lines) (and_right (frame_fits p m b) (body_fits p b && lines_fit (length b.insns) m.lines)
    (and_right (not (lacks_code m.flags)) (frame_fits p m b && (body_fits p b && lines_fit (length b.insns) m.lines)) h))

insn_fit : (p : Program) (b : Body) (j : ℕ) (i : Insn) → body_fits p b ≡ true → slice_get b.insns j ≡ Some i → numbers_fit i p ≡ true
unfolding body_fits insn_fits
insn_fit p b j i h at =
    let more = and_right (may_begin (slice_get b.insns 0) && ends (slice_get b.insns (length b.insns - 1))) (list_all follows (neighbours b.insns) && (list_all (insn_fits p b) (enumerate_from 0 b.insns) && regions_fit p b.insns b.regions)) h in
    let all = and_left (list_all (insn_fits p b) (enumerate_from 0 b.insns)) (regions_fit p b.insns b.regions) (and_right (list_all follows (neighbours b.insns)) (list_all (insn_fits p b) (enumerate_from 0 b.insns) && regions_fit p b.insns b.regions) more) in
    let one = all_at (insn_fits p b) (enumerate_from 0 b.insns) j (0 + j, i) all (enumerated i b.insns 0 j at) in
    and_right (registers_fit i b.registers) (numbers_fit i p) (and_right (is_encodable i) (registers_fit i b.registers && numbers_fit i p)
    (and_left (is_encodable i && (registers_fit i b.registers && numbers_fit i p)) (targets_fit b.insns i && (leaves (0 + j) i && is_caught b.regions (0 + j) i)) one))

invoke_fit : (p : Program) (kind : InvokeKind) (n : ℕ) (args : List ℕ) → numbers_fit (insn.Invoke kind n args) p ≡ true → n < length p.methods
unfolding numbers_fit
invoke_fit p kind n args h = below n (length p.methods) h

-- a called number is one of the table of methods
pub call_short : (p : Program) (s : Sound p) (place : ℕ) (c : Class) → slice_get p.classes place ≡ Some c → (i : ℕ) (m : Method) → slice_get c.methods i ≡ Some m → (b : Body) → m.body ≡ Some b
    → (j : ℕ) (kind : InvokeKind) (n : ℕ) (args : List ℕ) → slice_get b.insns j ≡ Some (insn.Invoke kind n args) → n < length p.methods
call_short p s place c is_class i m at b is_body j kind n args e =
    let fit = code_fit p c i m (all_at (class_fits p) p.classes place c s.classes_fit is_class) at in
    invoke_fit p kind n args (insn_fit p b j (insn.Invoke kind n args) (body_fit p m b (sym (ap (code_fits p m) is_body) ∙ fit)) e)

-- a class name has a unit
pub class_named : (p : Program) (c : Class) → class_fits p c ≡ true → type_text p c.name ≡ [] → true ≡ false
unfolding class_fits types_of_class_fit letter_of
class_named p c h e =
    let types = and_left (types_of_class_fit p c) (source_fits p c.source && marks_fit p c.marks)
    (and_left (types_of_class_fit p c && (source_fits p c.source && marks_fit p c.marks)) (fields_fit p c.name c.fields && methods_fit p c.name c.methods) h) in
    let one = and_left (is_class_type p c.name && not (is_object (type_text p c.name))) (is_class_type p c.superclass && list_all (is_class_type p) c.interfaces) types in
    let kind = and_left (is_class_type p c.name) (not (is_object (type_text p c.name))) one in
    let letter = and_right (has_type p c.name) (is_class (letter_of p c.name)) kind in
    sym letter ∙ ap (λ t. is_class (first_unit t)) e

pub type_short : (p : Program) (kind : ℕ) → has_type p kind ≡ true → kind < length p.types
type_short p kind h = below kind (length p.types) h
