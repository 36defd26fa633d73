-- New numbers of used entries are numbers of the written program's tables.
use Rattle.std.proofs.Common.{length, arith}
use Rattle.std.specs.Prelude.{slice_get}
use Rattle.std.proofs.lemmas.Option.{slice_get_within}
use Rattle.dex_pools.specs.declared.interner.Interner.{Interner}
use Rattle.dex_pools.specs.Interned.{IsInterned}
use Rattle.dex_pools.specs.Numbering.{used_in, string_key, type_key, proto_key, field_key, method_key}
use Rattle.dex_pools.specs.declared.used.Named.{Named}
use Rattle.dex_pools.specs.declared.used.Named.TheVariants as named
use Rattle.program_model.specs.declared.program.Program.{Program}
use Rattle.dex_defs.specs.Written.{new_string, new_type, new_proto, new_field, new_method, written_proto, written_field_name, written_method_name, written_by}
use Rattle.write_laws.specs.Used.{IsUsed, IsShort}
use Rattle.write_laws.specs.Carried.{HasEntry, renamed}
use Rattle.write_laws.specs.Orders.{OrdersIn}
use Rattle.write_laws.proofs.NamesOrdering.{AsMany, used_marked, orders_in}
use Rattle.write_laws.proofs.Carried.{used_at, entries_long}

pub ranges_kept : (p : Program) (i : Interner) → IsShort p → IsInterned p i → (n : Named) → IsUsed (used_in p) n → HasEntry p n → HasEntry (written_by i p) (renamed i.numbers n)
ranges_kept p i few h (named.Text n) used lt =
    let many : AsMany p (used_in p) = used_marked p in
    let fit : OrdersIn p i = orders_in p i h in
    let at = used_at (used_in p).strings (string_key p.strings) (length p.strings) i.order.strings.items i.numbers.strings.items h.strings many.strings few.strings n lt used in
    omega (arith, slice_get_within i.order.strings.items (new_string i.numbers n) n at.stands, entries_long (λ text. text) p.strings i.order.strings.items fit.strings)
ranges_kept p i few h (named.Kind n) used lt =
    let many : AsMany p (used_in p) = used_marked p in
    let fit : OrdersIn p i = orders_in p i h in
    let at = used_at (used_in p).types (type_key i.numbers.strings.items p.types) (length p.types) i.order.types.items i.numbers.types.items h.types many.types few.types n lt used in
    omega (arith, slice_get_within i.order.types.items (new_type i.numbers n) n at.stands, entries_long (new_string i.numbers) p.types i.order.types.items fit.types)
ranges_kept p i few h (named.Proto n) used lt =
    let many : AsMany p (used_in p) = used_marked p in
    let fit : OrdersIn p i = orders_in p i h in
    let at = used_at (used_in p).protos (proto_key i.numbers.types.items p.protos) (length p.protos) i.order.protos.items i.numbers.protos.items h.protos many.protos few.protos n lt used in
    omega (arith, slice_get_within i.order.protos.items (new_proto i.numbers n) n at.stands, entries_long (written_proto i.numbers) p.protos i.order.protos.items fit.protos)
ranges_kept p i few h (named.Field n) used lt =
    let many : AsMany p (used_in p) = used_marked p in
    let fit : OrdersIn p i = orders_in p i h in
    let at = used_at (used_in p).fields (field_key i.numbers.strings.items i.numbers.types.items p.fields) (length p.fields) i.order.fields.items i.numbers.fields.items h.fields many.fields few.fields n lt used in
    omega (arith, slice_get_within i.order.fields.items (new_field i.numbers n) n at.stands, entries_long (written_field_name i.numbers) p.fields i.order.fields.items fit.fields)
ranges_kept p i few h (named.Method n) used lt =
    let many : AsMany p (used_in p) = used_marked p in
    let fit : OrdersIn p i = orders_in p i h in
    let at = used_at (used_in p).methods (method_key i.numbers.strings.items i.numbers.types.items i.numbers.protos.items p.methods) (length p.methods) i.order.methods.items i.numbers.methods.items h.methods many.methods few.methods n lt used in
    omega (arith, slice_get_within i.order.methods.items (new_method i.numbers n) n at.stands, entries_long (written_method_name i.numbers) p.methods i.order.methods.items fit.methods)
