use Rattle.std.proofs.Common.{◌≡◌, ℕ, rules, ap, sym, subst, ◌∙◌}
use Rattle.std.specs.Int.{w32, w64, cast_unsigned}
use Rattle.insn_set.specs.declared.form.Insn.{Insn}
use Rattle.dalvik_defs.specs.Naming.{form_of, text_at, type_at}
use Rattle.dalvik_defs.specs.Effect.{sets, sets_wide}
use Rattle.dalvik_defs.specs.Act.{act}
use Rattle.dalvik_defs.specs.declared.state.Value.{Value}
use Rattle.dalvik_defs.specs.declared.state.Value.TheVariants.{Word, Literal, Class}
use Rattle.dalvik_state.specs.declared.datum.Datum.TheVariants as datum
use Rattle.dalvik_state.specs.Views.{IsFine, frame_of, names_in, value_of}
use Rattle.dalvik_act.specs.Acting.{IsPlaced}
use Rattle.dalvik_act.proofs.Tabled.{class_fine, class_named, knows_named, string_named}
use Rattle.dalvik_act.proofs.plain.act_constants.Goals as goal

pub returns-in-Const-clause-acts : goal.returns-in-Const-clause-acts
returns-in-Const-clause-acts c = λ is under floats named placed h w.
    let l = c.args.tables.now.lookups in
    let f = frame_of (names_in l) c.args.frame.now in
    let bits : c.cast_unsigned.result ≡ cast_unsigned w32 c.in-Const.value = search rules in
    c.sets.ensures.does (names_in l) (knows_named l named.types) h w
    ∙ ap (λ (x : ℕ). sets w f c.in-Const.to (Word x)) bits
    ∙ ap (λ (x : Insn). act under floats (form_of l.program.now x) w f) (sym c.in-Const.is)

pub returns-in-ConstWide-clause-acts : goal.returns-in-ConstWide-clause-acts
returns-in-ConstWide-clause-acts c = λ is under floats named placed h w.
    let l = c.args.tables.now.lookups in
    let f = frame_of (names_in l) c.args.frame.now in
    let bits : c.cast_unsigned-in-ConstWide.result ≡ cast_unsigned w64 c.in-ConstWide.value = search rules in
    c.sets_wide.ensures.does (names_in l) (knows_named l named.types) h w
    ∙ ap (λ (x : ℕ). sets_wide w f c.in-ConstWide.to x) bits
    ∙ ap (λ (x : Insn). act under floats (form_of l.program.now x) w f) (sym c.in-ConstWide.is)

pub returns-in-ConstString-clause-acts : goal.returns-in-ConstString-clause-acts
returns-in-ConstString-clause-acts c = λ is under floats named placed h w.
    let l = c.args.tables.now.lookups in
    let f = frame_of (names_in l) c.args.frame.now in
    let asked = c.in-ConstString in
    let there = subst (IsPlaced l.program.now) asked.is placed in
    let value : value_of (names_in l) (datum.Literal c.string-number.result) ≡ Literal (text_at l.program.now asked.string) =
    ap (λ (x : ℕ). value_of (names_in l) (datum.Literal x)) c.string-number.ensures.table ∙ string_named l named asked.string there in
    c.sets-in-ConstString.ensures.does (names_in l) (knows_named l named.types) h w
    ∙ ap (λ (v : Value). sets w f asked.to v) value
    ∙ ap (λ (x : Insn). act under floats (form_of l.program.now x) w f) (sym asked.is)

pub returns-in-ConstClass-clause-acts : goal.returns-in-ConstClass-clause-acts
returns-in-ConstClass-clause-acts c = λ is under floats named placed h w.
    let l = c.args.tables.now.lookups in
    let f = frame_of (names_in l) c.args.frame.now in
    let asked = c.in-ConstClass in
    let there = subst (IsPlaced l.program.now) asked.is placed in
    let value : value_of (names_in l) c.class_constant-class.result ≡ Class (type_at l.program.now asked.kind) =
    ap (value_of (names_in l)) c.class_constant-class.ensures ∙ class_named l named asked.kind there in
    c.sets-in-ConstClass.ensures.does (names_in l) (knows_named l named.types) h w
    ∙ ap (λ (v : Value). sets w f asked.to v) value
    ∙ ap (λ (x : Insn). act under floats (form_of l.program.now x) w f) (sym asked.is)

pub returns-in-Const-clause-safe : goal.returns-in-Const-clause-safe
returns-in-Const-clause-safe c = λ named placed size low k. c.sets.ensures.safe c.args.tables.now.lookups size tt low k

pub returns-in-ConstString-clause-safe : goal.returns-in-ConstString-clause-safe
returns-in-ConstString-clause-safe c = λ named placed size low k.
    let l = c.args.tables.now.lookups in
    let asked = c.in-ConstString in
    let number = c.string-number.ensures.is named (subst (IsPlaced l.program.now) asked.is placed) in
    c.sets-in-ConstString.ensures.safe l size number.below low k

pub returns-in-ConstClass-clause-safe : goal.returns-in-ConstClass-clause-safe
returns-in-ConstClass-clause-safe c = λ named placed size low k.
    let l = c.args.tables.now.lookups in
    c.sets-in-ConstClass.ensures.safe l size (subst (IsFine (names_in l) size) (sym c.class_constant-class.ensures) (class_fine l size named c.in-ConstClass.kind (subst (IsPlaced l.program.now) c.in-ConstClass.is placed))) low k

pub returns-in-ConstWide-clause-safe : goal.returns-in-ConstWide-clause-safe
returns-in-ConstWide-clause-safe c = λ named placed size low k. c.sets_wide.ensures.safe c.args.tables.now.lookups size low k
