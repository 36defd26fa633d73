use Rattle.std.proofs.Common.{rules}
use Rattle.script_text.proofs.EventLemmas.{hex_none, hex_more}
use Rattle.script_text.proofs.events.+push_hex.Goals as goal

pub returns-then-places-eq0 : goal.returns-then-places-eq0
returns-then-places-eq0 t c = hex_none c.args.out.now.items c.args.places c.args.number c.if-places-eq0.true

pub returns : goal.returns
returns t c = hex_more c.args.out.now.items c.push_hex.new.out.items c.push.new.self.items c.args.places c.args.number c.digit_char.result c.if-places-eq0.false c.in_ok-push_hex.ensures c.digit_char.ensures (search rules)
