-- The items that are counted are no fewer than those of what is read.
use Rattle.std.proofs.Common.{◌≡◌, ℕ, ◌+◌, ◌*◌, ◌≤◌, List, [], ◌++◌, length, map, Ok, sym, subst, arith}
use Rattle.std.specs.Prelude.{◌==◌, sum_by}
use Rattle.program_model.specs.Items.{proto_items, class_items, items_of}
use Rattle.program_model.specs.declared.program.Program.{Program}
use Rattle.dex_pools.specs.Order.{ascends_in, proto_below}
use Rattle.dex_pools.specs.PoolTables.{strings_at, types_at, protos_at, fields_at, methods_at, pools_at}
use Rattle.dex_pools.specs.Tables.{extents_at, letters_of, parameters_at, proto_at}
use Rattle.dex_pools.specs.Word.{word_at as pool_word_at, index_at as pool_index_at}
use Rattle.dex_pools.specs.declared.fault.Table.TheVariants.{Protos}
use Rattle.dex_pools.specs.declared.header.Extents.{Extents}
use Rattle.dex_read.specs.declared.members.Budget.{Budget}
use Rattle.program_model.specs.declared.program.Version.{Version}
use Rattle.dex_read.specs.Classes.{def_at, interfaces_at, root_at, listed_at, field_with, class_with, class_at}
use Rattle.dex_read.specs.Faults.{of_pool}
use Rattle.dex_read.specs.File.{tables_with, tables_at, head_at, class_in, table_at, classes_at, program_at}
use Rattle.dex_read.specs.Header.{need_at, header_at}
use Rattle.dex_read.specs.Tables.{sizes_in}
use Rattle.dex_read.specs.Word.{word_at}
use Rattle.read_laws.proofs.MemberItems.{methods_spend, marked_spends, begun_spends, bare_fields, no_firsts}
use Rattle.read_laws.proofs.Spending.{tested, lifted, run_spends, types_spend}
use Rattle.read_laws.proofs.Told.{is_read}
use Rattle.read_laws.proofs.Yielding as yields
use Rattle.read_laws.proofs.Yielding.{Yields, made, after, either}

-- ---- protos

parameters_spend : (bytes : List ℕ) (size offset left : ℕ) → Yields (λ r. length r.0 + r.1 ≤ left) (parameters_at bytes size offset left)
unfolding parameters_at
parameters_spend bytes size offset left = either (offset == 0) (made ([], left) (omega arith)) (types_spend bytes offset size left)

proto_spends : (bytes : List ℕ) (tables : Extents) (strings : List (List ℕ)) (letters : List ℕ) (i left : ℕ) → Yields (λ r. proto_items r.0 + r.1 ≤ left) (proto_at bytes tables strings letters i left)
unfolding proto_at
proto_spends bytes tables strings letters i left =
    yields.past (pool_index_at bytes (tables.protos.offset + 12 * i) tables.strings.size) (λ shorty.
    yields.past (pool_index_at bytes (tables.protos.offset + 12 * i + 4) tables.types.size) (λ result.
    yields.past (pool_word_at bytes (tables.protos.offset + 12 * i + 8)) (λ offset.
    after (parameters_spend bytes tables.types.size offset left) (λ parameters h. tested _ _ (λ _. made (record { shorty = shorty; result = result; parameters = parameters.0 }, parameters.1) h)))))

protos_spend : (bytes : List ℕ) (tables : Extents) (strings : List (List ℕ)) (letters : List ℕ) (left : ℕ) → Yields (λ r. sum_by proto_items r.0 + r.1 ≤ left) (protos_at bytes tables strings letters left)
unfolding protos_at
protos_spend bytes tables strings letters left =
    after (run_spends proto_items (λ s. s) (proto_at bytes tables strings letters) (proto_spends bytes tables strings letters) 0 tables.protos.size left) (λ protos h.
    yields.past (ascends_in proto_below Protos protos.0) (λ order. made protos h))

pools_spend : (bytes : List ℕ) (left : ℕ) → Yields (λ r. sum_by proto_items r.0.protos + r.1 ≤ left) (pools_at bytes left)
unfolding pools_at
pools_spend bytes left =
    yields.past (extents_at bytes) (λ tables.
    yields.past (strings_at bytes tables) (λ strings.
    yields.past (types_at bytes tables strings) (λ types.
    after (protos_spend bytes tables strings (letters_of strings types) left) (λ protos h.
    yields.past (fields_at bytes tables (letters_of strings types)) (λ fields.
    yields.past (methods_at bytes tables) (λ methods.
    made (record { strings = strings; types = types; protos = protos.0; fields = fields; methods = methods }, protos.1) h))))))

tables_spend : (bytes : List ℕ) (version : Version) → Yields (λ r. sum_by proto_items r.0.protos + r.1 ≤ 16777216) (tables_at bytes version)
unfolding tables_at
tables_spend bytes version = after (lifted of_pool (pools_spend bytes 16777216)) (λ pools h. made (tables_with version pools.0, pools.1) h)

head_spends : (bytes : List ℕ) → Yields (λ r. sum_by proto_items r.0.protos + r.1 ≤ 16777216) (head_at bytes)
unfolding head_at
head_spends bytes = yields.past (header_at bytes) (λ version. tables_spend bytes version)

-- ---- classes

interfaces_spend : (bytes : List ℕ) (p : Program) (offset left : ℕ) → Yields (λ r. length r.0 + r.1 ≤ left) (interfaces_at bytes p offset left)
unfolding interfaces_at
interfaces_spend bytes p offset left = either (offset == 0) (made ([], left) (omega arith)) (lifted of_pool (types_spend bytes offset (sizes_in p).types left))

class_spends : (bytes : List ℕ) (p : Program) (at place : ℕ) (left : Budget) → Yields (λ r. class_items r.0 + r.1.items ≤ left.items) (class_at bytes p at place left)
unfolding class_at class_items
class_spends bytes p at place left =
    yields.past (def_at bytes p at) (λ def.
    after (interfaces_spend bytes p def.interfaces left.items) (λ interfaces h1.
    yields.past (root_at p def interfaces.0 place) (λ root.
    yields.past (listed_at bytes p (record { place = place; kind = def.class }) def.data_at) (λ listed.
    after (methods_spend bytes p listed (record { items = interfaces.1; cells = left.cells })) (λ methods h2.
    after (marked_spends bytes p place listed def.annotations (map field_with (listed.statics ++ listed.instances)) methods.0 methods.1.items
    (bare_fields (listed.statics ++ listed.instances)) (no_firsts 0 0 (listed.statics ++ listed.instances))) (λ marks h3.
    after (begun_spends bytes p def.static_values (length listed.statics) marks.fields marks.left h3.firsts) (λ fields h4.
    made (class_with def interfaces.0 marks fields.0, record { items = fields.1; cells = methods.1.cells }) (omega (arith, h1, h2, h3.sum, h4)))))))))

table_spends : (bytes : List ℕ) (p : Program) (count offset : ℕ) (left : Budget) → Yields (λ r. sum_by class_items r.0 + r.1.items ≤ left.items) (table_at bytes p count offset left)
unfolding table_at
table_spends bytes p count offset left = either (count == 0) (made ([], left) (omega arith))
    (yields.past (need_at bytes offset (32 * count)) (λ whole. run_spends class_items (λ (s : Budget). s.items) (class_in bytes p offset) (λ i s. class_spends bytes p (offset + 32 * i) i s) 0 count left))

classes_spend : (bytes : List ℕ) (p : Program) (left : Budget) → Yields (λ classes. sum_by class_items classes ≤ left.items) (classes_at bytes p left)
unfolding classes_at
classes_spend bytes p left =
    yields.past (word_at bytes 96) (λ count.
    yields.past (word_at bytes 100) (λ offset.
    after (table_spends bytes p count offset left) (λ cs h. made cs.0 (omega (arith, h)))))

-- ---- the program

pub few_items : (bytes : List ℕ) (p : Program) → program_at bytes ≡ Ok p → items_of p ≤ 16777216
unfolding items_of
few_items bytes p h =
    let r = is_read bytes p h in
    let protos : sum_by proto_items r.tables.protos + r.left ≤ 16777216 = (head_spends bytes).found (r.tables, r.left) r.head in
    let classes : sum_by class_items r.classes ≤ r.left = (classes_spend bytes r.tables (record { items = r.left; cells = 0 })).found r.classes r.filled in
    subst (λ (q : Program). sum_by proto_items q.protos + sum_by class_items q.classes ≤ 16777216) (sym r.is) (omega (arith, protos, classes))
