use Rattle.std.proofs.Common.{◌∙◌, ap, length}
use Rattle.std.specs.Prelude.{◌&&◌, ◌||◌, is_some, nat_le, nat_lt, not, sum_by}
use Rattle.static_protos.specs.Tables.{text_at, proto_at, strings_with, items_with, is_taken}
use Rattle.static_protos.proofs.Grown.{proto_short, room_is}
use Rattle.static_protos.proofs.tables.Additions.has_room.Goals as goal

pub returns : goal.returns
returns c = λ p t g e f.
    let a = c.args.self.now in
    let w = c.args.wanted.now in
    let text = c.args.room.text in
    let proto = c.args.room.proto in
    let taken = c.is_taken-taken.ensures p t g (proto_short p t a w proto g f) in
    let places = c.has_places-places.ensures p t g in
    let limits = c.keeps_limits-limits.ensures p t g e f in
    let units = nat_le (sum_by length (strings_with t w)) 16777216 in
    let items = nat_le (items_with t w) 16777216 in
    c.both.ensures ∙ (ap (λ b. b && c.keeps_limits-limits.result) c.both-free.ensures ∙ (ap (λ b. not b && c.has_places-places.result && c.keeps_limits-limits.result) (taken ∙ ap (is_taken p w.name) f)
    ∙ (ap (λ b. not (is_taken p w.name (proto_at t w)) && b && c.keeps_limits-limits.result) (places ∙ (ap (λ o. (is_some o || nat_lt (length t.strings) 65536) && (is_some proto || nat_lt (length t.protos) 65535)) e ∙ ap (λ o. (is_some (text_at t w) || nat_lt (length t.strings) 65536) && (is_some o || nat_lt (length t.protos) 65535)) f))
    ∙ (ap (λ b. not (is_taken p w.name (proto_at t w)) && ((is_some (text_at t w) || nat_lt (length t.strings) 65536) && (is_some (proto_at t w) || nat_lt (length t.protos) 65535)) && b) limits
    ∙ room_is (not (is_taken p w.name (proto_at t w))) (is_some (text_at t w) || nat_lt (length t.strings) 65536) (is_some (proto_at t w) || nat_lt (length t.protos) 65535) units items))))
