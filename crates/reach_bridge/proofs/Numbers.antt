-- The numbers in the code of a well-formed program are those of its tables.
use Rattle.std.proofs.Common.{◌≡◌, ℕ, ◌+◌, ◌<◌, true, List, [], ◌∷◌, length, Some, subst}
use Rattle.std.specs.Prelude.{◌&&◌, ◌-◌, not, slice_get}
use Rattle.std.specs.List.{list_all, enumerate_from}
use Rattle.insn_set.specs.Spelling.{is_encodable}
use Rattle.insn_set.specs.declared.form.Insn.{Insn}
use Rattle.insn_set.specs.declared.form.Insn.TheVariants as insn
use Rattle.insn_set.specs.declared.ops.InvokeKind.{InvokeKind}
use Rattle.program_model.specs.declared.body.Body.{Body}
use Rattle.program_model.specs.declared.program.Method.{Method}
use Rattle.program_model.specs.declared.program.Class.{Class}
use Rattle.program_model.specs.declared.program.Program.{Program}
use Rattle.program_model.specs.Neighbours.{neighbours}
use Rattle.program_model.specs.Distinct.{own_method_key, all_differ}
use Rattle.program_model.specs.OperandRules.{registers_fit, numbers_fit}
use Rattle.program_model.specs.RegionRules.{may_begin, regions_fit}
use Rattle.program_model.specs.BodyRules.{ends, follows, targets_fit, leaves, is_caught, insn_fits, body_fits}
use Rattle.program_model.specs.LineRules.{lines_fit}
use Rattle.program_model.specs.ValueRules.{marks_fit}
use Rattle.program_model.specs.MemberRules.{lacks_code, is_class_number, class_of_method, frame_fits, code_fits, method_fits, methods_in_order, methods_fit, fields_fit, types_of_class_fit, source_fits, class_fits}
use Rattle.class_defs.proofs.WellFormed.{all_at, below, Sound}
use Rattle.removal_law.proofs.Lists.{In, here, there, all_in, and_left, and_behind}

enumerated : {A : Type 0} (x : A) (xs : List A) (n : ℕ) → In x xs → (j : ℕ) × In (j, x) (enumerate_from n xs)
enumerated x [] n i = elim i [ ]
enumerated x (y ∷ ys) n (here zs) = (n, here (enumerate_from (n + 1) ys))
enumerated x (y ∷ ys) n (there z zs i) = let r = enumerated x ys (n + 1) i in (r.0, there (n, y) (enumerate_from (n + 1) ys) r.1)

code_fit : (p : Program) (c : Class) (m : Method) → class_fits p c ≡ true → In m c.methods → code_fits p m m.body ≡ true
unfolding class_fits methods_fit method_fits
code_fit p c m h i =
    let two = and_behind (types_of_class_fit p c && (source_fits p c.source && marks_fit p c.marks)) (fields_fit p c.name c.fields && methods_fit p c.name c.methods) h in
    let ms = and_behind (fields_fit p c.name c.fields) (methods_fit p c.name c.methods) two in
    let all = and_left (list_all (method_fits p c.name) c.methods) (list_all (methods_in_order p) (neighbours c.methods) && all_differ own_method_key c.methods) ms in
    let one = all_in (method_fits p c.name) c.methods all m i in
    and_behind (is_class_number (class_of_method (slice_get p.methods m.name)) c.name) (code_fits p m m.body)
    (and_left (is_class_number (class_of_method (slice_get p.methods m.name)) c.name && code_fits p m m.body) (marks_fit p m.marks && list_all (marks_fit p) m.parameter_marks) one)

body_fit : (p : Program) (m : Method) (b : Body) → code_fits p m (Some b) ≡ true → body_fits p b ≡ true
body_fit p m b h = and_left (body_fits p b) (lines_fit (length b.insns) m.lines) (and_behind (frame_fits p m b) (body_fits p b && lines_fit (length b.insns) m.lines)
    (and_behind (not (lacks_code m.flags)) (frame_fits p m b && (body_fits p b && lines_fit (length b.insns) m.lines)) h))

insn_fit : (p : Program) (b : Body) (i : Insn) → body_fits p b ≡ true → In i b.insns → numbers_fit i p ≡ true
unfolding body_fits insn_fits
insn_fit p b i h at =
    let more = and_behind (may_begin (slice_get b.insns 0) && ends (slice_get b.insns (length b.insns - 1))) (list_all follows (neighbours b.insns) && (list_all (insn_fits p b) (enumerate_from 0 b.insns) && regions_fit p b.insns b.regions)) h in
    let all = and_left (list_all (insn_fits p b) (enumerate_from 0 b.insns)) (regions_fit p b.insns b.regions) (and_behind (list_all follows (neighbours b.insns)) (list_all (insn_fits p b) (enumerate_from 0 b.insns) && regions_fit p b.insns b.regions) more) in
    let j = enumerated i b.insns 0 at in
    let one = all_in (insn_fits p b) (enumerate_from 0 b.insns) all (j.0, i) j.1 in
    and_behind (registers_fit i b.registers) (numbers_fit i p) (and_behind (is_encodable i) (registers_fit i b.registers && numbers_fit i p)
    (and_left (is_encodable i && (registers_fit i b.registers && numbers_fit i p)) (targets_fit b.insns i && (leaves j.0 i && is_caught b.regions j.0 i)) one))

invoke_fit : (p : Program) (kind : InvokeKind) (n : ℕ) (args : List ℕ) → numbers_fit (insn.Invoke kind n args) p ≡ true → n < length p.methods
unfolding numbers_fit
invoke_fit p kind n args h = below n (length p.methods) h

new_fit : (p : Program) (to n : ℕ) → numbers_fit (insn.NewInstance to n) p ≡ true → n < length p.types
unfolding numbers_fit
new_fit p to n h = below n (length p.types) h

module _ (p : Program) (s : Sound p) (place : ℕ) (c : Class) (is_class : slice_get p.classes place ≡ Some c) (m : Method) (there : In m c.methods) (b : Body) (is_body : m.body ≡ Some b) where
  fits : body_fits p b ≡ true
  fits = body_fit p m b (subst (λ x. code_fits p m x ≡ true) is_body (code_fit p c m (all_at (class_fits p) p.classes place c s.classes_fit is_class) there))

  -- a called number is one of the table of methods
  pub call_short : (kind : InvokeKind) (n : ℕ) (args : List ℕ) → In (insn.Invoke kind n args) b.insns → n < length p.methods
  call_short kind n args i = invoke_fit p kind n args (insn_fit p b (insn.Invoke kind n args) fits i)

  -- a made number is one of the table of types
  pub new_short : (to n : ℕ) → In (insn.NewInstance to n) b.insns → n < length p.types
  new_short to n i = new_fit p to n (insn_fit p b (insn.NewInstance to n) fits i)
