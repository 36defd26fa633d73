use Rattle.std.proofs.Common.{◌≡◌, ℕ, ◌%◌, ◌^◌, rules, ap, sym, ◌∙◌}
use Rattle.std.specs.Option.{option_map}
use Rattle.std.specs.Int.{w32, cast_unsigned}
use Rattle.insn_set.specs.declared.form.Insn.{Insn}
use Rattle.dalvik_defs.specs.Naming.{form_of}
use Rattle.dalvik_defs.specs.Arith.{literal_answer}
use Rattle.dalvik_defs.specs.Operators.{Number, OneWord, sort_of, unary_answer}
use Rattle.dalvik_defs.specs.ActNumber.{number, sets_number}
use Rattle.dalvik_defs.specs.Act.{act}
use Rattle.dalvik_numbers.specs.Kinds.{answered, number_is}
use Rattle.dalvik_state.specs.declared.datum.Datum.{Datum}
use Rattle.dalvik_state.specs.Frames.{cell, number_in}
use Rattle.dalvik_state.specs.Views.{frame_of}
use Rattle.dalvik_act.proofs.Answered.{binary_gives, literal_gives, number_at}
use Rattle.dalvik_act.proofs.numbers.act_numbers.Goals as goal

pub returns-in-Unary-clause-acts : goal.returns-in-Unary-clause-acts
returns-in-Unary-clause-acts c = λ is under floats made n k h w.
    let f = frame_of n c.args.frame.now in
    let read : c.number-in-Unary.result ≡ number f c.in-Unary.from = c.number-in-Unary.ensures ∙ ap number_in c.get-in-Unary.ensures ∙ number_at n c.args.frame.now c.in-Unary.from in
    c.gives_number-in-Unary.ensures.does n k h w
    ∙ ap (λ (x : Number). sets_number x w f c.in-Unary.to) (c.unary-number.ensures floats made ∙ ap (unary_answer floats c.in-Unary.op) read)
    ∙ ap (λ (x : Insn). act under floats (form_of n.program x) w f) (sym c.in-Unary.is)

pub returns-in-Binary-clause-acts : goal.returns-in-Binary-clause-acts
returns-in-Binary-clause-acts c = λ is under floats made n k h w.
    let f = frame_of n c.args.frame.now in
    let cells = c.args.frame.now.registers.items in
    let first : c.number-in-Binary.result ≡ number_in (cell cells c.in-Binary.a) = c.number-in-Binary.ensures ∙ ap number_in c.get-in-Binary.ensures in
    let second : c.number-in-Binary-2.result ≡ number_in (cell cells c.in-Binary.b) = c.number-in-Binary-2.ensures ∙ ap number_in c.get-in-Binary-2.ensures in
    let answer : option_map number_is c.binary-number.result ≡ answered floats (sort_of c.in-Binary.op) (number_in (cell cells c.in-Binary.a)) (number_in (cell cells c.in-Binary.b)) =
    c.binary-number.ensures floats made ∙ (λ i. answered floats (sort_of c.in-Binary.op) (first i) (second i)) in
    c.gives_number-in-Binary.ensures.does n k h w
    ∙ binary_gives n c.args.frame.now w floats c.in-Binary.op c.in-Binary.to c.in-Binary.a c.in-Binary.b (option_map number_is c.binary-number.result) answer
    ∙ ap (λ (x : Insn). act under floats (form_of n.program x) w f) (sym c.in-Binary.is)

pub returns-in-Literal-clause-acts : goal.returns-in-Literal-clause-acts
returns-in-Literal-clause-acts c = λ is under floats made n k h w.
    let f = frame_of n c.args.frame.now in
    let cells = c.args.frame.now.registers.items in
    let read : c.word.result ≡ number_in (cell cells c.in-Literal.a) % 2 ^ 32 = c.word.ensures ∙ ap (λ (d : Datum). number_in d % 2 ^ 32) c.get-in-Literal.ensures in
    let word : c.literal-word.result ≡ literal_answer c.in-Literal.op c.word.result (cast_unsigned w32 c.in-Literal.value) = search rules in
    c.gives_number-in-Literal.ensures.does n k h w
    ∙ literal_gives n c.args.frame.now w c.in-Literal.op c.in-Literal.to c.in-Literal.a c.in-Literal.value (option_map number_is c.one_word.result)
    (c.one_word.ensures ∙ ap (option_map OneWord) (word ∙ ap (λ (x : ℕ). literal_answer c.in-Literal.op x (cast_unsigned w32 c.in-Literal.value)) read))
    ∙ ap (λ (x : Insn). act under floats (form_of n.program x) w f) (sym c.in-Literal.is)
