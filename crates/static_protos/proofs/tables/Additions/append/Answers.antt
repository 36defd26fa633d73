use Rattle.std.proofs.Common.{◌≡◌, ◌∙◌, ap, arith, length, refl}
use Rattle.program_model.specs.declared.pools.Proto.{Proto}
use Rattle.static_protos.specs.Tables.{place_or}
use Rattle.static_protos.proofs.Grown.{appended, counts_fit, place_text, place_key, texts_long, keys_long, text_short, proto_short}
use Rattle.static_protos.proofs.tables.Additions.append.Goals as goal

pub returns : goal.returns
returns c = λ p t g e f room.
    let a0 = c.args.self.now in
    let a1 = c.count.new.self in
    let a2 = c.give.new.self in
    let a3 = c.keep_text.new.self in
    let a4 = c.keep_proto.new.self in
    let w = c.args.wanted in
    let text = c.args.room.text in
    let proto = c.args.room.proto in
    let fit = counts_fit p t w a0 a1 a2 a3 a4 g room text proto e f in
    let strings : c.len-texts.result ≡ length t.strings = c.len-texts.ensures.len ∙ texts_long p t a0 g in
    let protos : c.len-keys.result ≡ length t.protos = c.len-keys.ensures.len ∙ keys_long p t a0 g in
    let few_strings = g.few_strings in
    let few_protos = g.few_protos in
    let new : Proto = record { shorty = c.place_or-shorty.result; result = w.result; parameters = w.parameters } in
    appended p t w a0 a1 a2 a3 a4 g room text proto e f c.place_or-shorty.result c.place_or-number.result c.as_slice.result.now new
    (c.place_or-shorty.ensures (omega (arith, strings, few_strings)) (text_short p t a0 w text g e) ∙ ap (λ n. place_or n text) strings)
    (c.place_or-number.ensures (omega (arith, protos, few_protos)) (proto_short p t a0 w proto g f) ∙ ap (λ n. place_or n proto) protos)
    c.as_slice.ensures refl (c.count.ensures.units fit.0) (c.count.ensures.items fit.1) c.count.ensures.rest c.give.ensures.given c.give.ensures.rest
    c.in_ok-keep_text.ensures.strings (c.in_ok-keep_text.ensures.texts (place_text p t w a0 a1 a2 a3 a4 g room text proto e f c.as_slice.result.now c.as_slice.ensures c.count.ensures.rest c.give.ensures.rest)) c.in_ok-keep_text.ensures.rest
    c.in_ok-keep_proto.ensures.protos
    (c.in_ok-keep_proto.ensures.keys (place_key p t w a0 a1 a2 a3 a4 g room text proto e f new refl refl c.count.ensures.rest c.give.ensures.rest c.in_ok-keep_text.ensures.rest)) c.in_ok-keep_proto.ensures.rest
