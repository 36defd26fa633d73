-- A body of a well-formed program keeps to its registers, targets and regions, and has not too many positions.
use Rattle.std.proofs.Common.{◌≡◌, ℕ, zero, suc, ◌+◌, ◌*◌, ◌<◌, ◌≤◌, Bool, true, false, true≢false, List, [], ◌∷◌, length, Option, Some, None, refl, sym, ap, ◌∙◌, subst, arith, ltb-true}
use Rattle.std.specs.Prelude.{◌&&◌, not, nat_lt, nat_le, slice_get, sum_by, Contains}
use Rattle.std.specs.List.{list_all}
use Rattle.std.proofs.lemmas.Bool.{leb-true}
use Rattle.std.proofs.lemmas.List.Sums.{sum_by-cons}
use Rattle.lemmas.proofs.Bools.{and_left, and_right}
use Rattle.lemmas.proofs.Lists.{all_at, got_short}
use Rattle.lemmas.proofs.Options.{none_some, some_same}
use Rattle.insn_set.specs.Flow.{targets_of}
use Rattle.insn_set.specs.Spelling.{is_encodable}
use Rattle.insn_set.specs.declared.form.Insn.{Insn}
use Rattle.program_model.specs.BodyRules.{body_fits}
use Rattle.program_model.specs.Cells.{entries_of, body_cells, method_cells, class_cells, cells_of}
use Rattle.program_model.specs.LineRules.{lines_fit}
use Rattle.program_model.specs.MemberRules.{is_class_number, class_of_method, lacks_code, takes_words, proto_of, frame_fits, code_fits, method_fits, methods_fit, methods_in_order, fields_fit, types_of_class_fit, source_fits, class_fits}
use Rattle.program_model.specs.Distinct.{own_method_key, all_differ}
use Rattle.program_model.specs.Neighbours.{neighbours}
use Rattle.program_model.specs.OperandRules.{registers_fit, numbers_fit}
use Rattle.program_model.specs.ProgramRules.{is_well_formed}
use Rattle.program_model.specs.RegionRules.{may_begin, rest_fits}
use Rattle.program_model.specs.ValueRules.{marks_fit}
use Rattle.program_model.proofs.Formed.{formed}
use Rattle.program_model.specs.declared.body.Body.{Body}
use Rattle.program_model.specs.declared.body.Handler.{Handler}
use Rattle.program_model.specs.declared.body.Region.{Region}
use Rattle.program_model.specs.declared.program.Class.{Class}
use Rattle.program_model.specs.declared.program.Method.{Method}
use Rattle.program_model.specs.declared.program.Program.{Program}
use Rattle.thin_laws.proofs.Rules.{operands_at, target_there, covers_at, rest_of, may_begin_at}
use Rattle.calls_kept.specs.Copied.{RegionWithin, IsWithin}

-- ---- the rules of a method's code

pub record IsCode (p : Program) (m : Method) (b : Body) : Type 0 where
  pub takes : takes_words p m.flags (proto_of p m.name) b.ins ≡ true
  pub room : b.ins ≤ b.registers
  pub body : body_fits p b ≡ true

module _ (p : Program) where
  method_there : (c : Class) (j : ℕ) (m : Method) → class_fits p c ≡ true → slice_get c.methods j ≡ Some m → method_fits p c.name m ≡ true
  unfolding class_fits methods_fit
  method_there c j m h e = all_at (method_fits p c.name) c.methods j m
      (and_left (list_all (method_fits p c.name) c.methods) (list_all (methods_in_order p) (neighbours c.methods) && all_differ own_method_key c.methods)
      (and_right (fields_fit p c.name c.fields) (methods_fit p c.name c.methods)
      (and_right (types_of_class_fit p c && (source_fits p c.source && marks_fit p c.marks)) (fields_fit p c.name c.fields && methods_fit p c.name c.methods) h))) e

  code_there : (class : ℕ) (m : Method) → method_fits p class m ≡ true → code_fits p m m.body ≡ true
  unfolding method_fits
  code_there class m h = and_right (is_class_number (class_of_method (slice_get p.methods m.name)) class) (code_fits p m m.body)
      (and_left (is_class_number (class_of_method (slice_get p.methods m.name)) class && code_fits p m m.body) (marks_fit p m.marks && list_all (marks_fit p) m.parameter_marks) h)

  framed : (m : Method) (b : Body) → frame_fits p m b ≡ true → (takes_words p m.flags (proto_of p m.name) b.ins && nat_le b.ins b.registers) ≡ true
  unfolding frame_fits
  framed m b h = h

  code_parts : (m : Method) (b : Body) → code_fits p m (Some b) ≡ true → IsCode p m b
  code_parts m b h =
      let rest = and_right (not (lacks_code m.flags)) (frame_fits p m b && (body_fits p b && lines_fit (length b.insns) m.lines)) h in
      let frame = framed m b (and_left (frame_fits p m b) (body_fits p b && lines_fit (length b.insns) m.lines) rest) in
      record {
        takes = and_left (takes_words p m.flags (proto_of p m.name) b.ins) (nat_le b.ins b.registers) frame;
        room = leb-true b.ins b.registers (and_right (takes_words p m.flags (proto_of p m.name) b.ins) (nat_le b.ins b.registers) frame);
        body = and_left (body_fits p b) (lines_fit (length b.insns) m.lines) (and_right (frame_fits p m b) (body_fits p b && lines_fit (length b.insns) m.lines) rest);
      }

  -- ---- the cells

  sum_at : {X : Type 0} (f : X → ℕ) (xs : List X) (k : ℕ) (x : X) → slice_get xs k ≡ Some x → f x ≤ sum_by f xs
  sum_at f [] k x e = none_some x e
  sum_at f (y ∷ ys) zero x e = let c = sum_by-cons f y ys in let g : f y ≡ f x = ap f (some_same y x e) in omega (arith, c, g)
  sum_at f (y ∷ ys) (suc k) x e = let i = sum_at f ys k x e in let c = sum_by-cons f y ys in omega (arith, c, i)

  long_cells : (r n : ℕ) → n ≤ (r + 1) * n
  long_cells r n = omega arith

module _ (p : Program) (w : is_well_formed p ≡ true) (i j : ℕ) (c : Class) (m : Method) (b : Body) (is_class : slice_get p.classes i ≡ Some c) (is_method : slice_get c.methods j ≡ Some m) (has : m.body ≡ Some b) where
  pub is_code : IsCode p m b
  is_code = code_parts p m b (sym (ap (code_fits p m) has) ∙ code_there p c.name m (method_there p c j m (all_at (class_fits p) p.classes i c (formed p w).classes is_class) is_method))

  fits : body_fits p b ≡ true
  fits = is_code.body

  pub few_positions : length b.insns ≤ 67108864
  few_positions =
      let l = leb-true (cells_of p) 67108864 (formed p w).cells in
      let a = sum_at p class_cells p.classes i c is_class in
      let d = sum_at p method_cells c.methods j m is_method in
      let e : method_cells m ≡ body_cells b = ap (λ o. elim o as (λ o. ℕ) [ Some b ↦ body_cells b | None ↦ 0 ]) has in
      let f = long_cells p b.registers (length b.insns) in
      omega (arith, l, a, d, e, f)

  pub registers_at : (n : ℕ) (x : Insn) → slice_get b.insns n ≡ Some x → registers_fit x b.registers ≡ true
  registers_at n x e = and_left (registers_fit x b.registers) (numbers_fit x p) (and_right (is_encodable x) (registers_fit x b.registers && numbers_fit x p) (operands_at p b fits n x e))

  pub numbers_at : (n : ℕ) (x : Insn) → slice_get b.insns n ≡ Some x → numbers_fit x p ≡ true
  numbers_at n x e = and_right (registers_fit x b.registers) (numbers_fit x p) (and_right (is_encodable x) (registers_fit x b.registers && numbers_fit x p) (operands_at p b fits n x e))

  pub targets_at : (n t : ℕ) (x : Insn) → slice_get b.insns n ≡ Some x → Contains (targets_of x) t → t ≤ length b.insns
  targets_at n t x e k = let g = target_there p b fits n t x e k in let l = got_short b.insns t g.0 g.1.0 in omega (arith, l)

  begun_short : (k : ℕ) → may_begin (slice_get b.insns k) ≡ true → k ≤ length b.insns
  begun_short k h = by (slice_get b.insns k) refl h
    where
      by : (o : Option Insn) → slice_get b.insns k ≡ o → may_begin o ≡ true → k ≤ length b.insns
      by None e h = absurd (true≢false (sym h))
      by (Some x) e h = let l = got_short b.insns k x e in omega (arith, l)

  region_within : (r : Region) → Contains b.regions r → RegionWithin (length b.insns) r
  region_within r k =
      let covers = covers_at p b fits r k in
      let before = ltb-true r.first r.end (and_left (nat_lt r.first r.end) (nat_le r.end (length b.insns)) covers) in
      let behind = leb-true r.end (length b.insns) (and_right (nat_lt r.first r.end) (nat_le r.end (length b.insns)) covers) in
      record {
        first = omega (arith, before, behind);
        last = behind;
        handlers = λ h q. begun_short h.position (may_begin_at p b fits r k h q);
        rest = λ n e. begun_short n (sym (ap (rest_fits b.insns) e) ∙ rest_of p b fits r k);
      }

  pub is_within : b.registers ≤ 65535 → IsWithin b
  is_within l = record {
    registers = registers_at;
    targets = targets_at;
    regions = region_within;
    few_registers = l;
    few = let f = few_positions in omega (arith, f);
  }
