-- Class_defs, lists of interfaces and code items that are read stand there.
use Rattle.std.proofs.Common.{◌≡◌, ◌≤◌, ◌<◌, ◌⊎◌, inl, inr, ℕ, zero, suc, ◌+◌, ◌*◌, ◌^◌, Bool, true, false, true≢false, cond, ltb, eqb, List, [], ◌∷◌, length, take, drop, min, Some, None, Ok, refl, sym, subst, ◌∙◌, arith}
use Rattle.std.specs.Prelude.{◌&&◌, ◌||◌}
use Rattle.std.specs.Int.{w16, from_le_bytes}
use Rattle.std.proofs.Math.Nat.{min-le_left}
use Rattle.std.proofs.lemmas.Bool.{ltb-true, eqb-true, eq-eqb}
use Rattle.lemmas.proofs.Bools.{or_cases}
use Rattle.dex_base.specs.Decides.{Each}
use Rattle.dex_base.specs.Reading.{raise}
use Rattle.dex_base.specs.Word.{Is16, Is32}
use Rattle.dex_pools.proofs.Finding.{finds_each}
use Rattle.program_model.specs.declared.program.Program.{Program}
use Rattle.dex_pools.specs.Spelled.{IsTypeList, IsHalfIndex, AreParameters}
use Rattle.dex_pools.specs.Items.{type_list_at}
use Rattle.dex_pools.proofs.TableReading.{finds_type_list}
use Rattle.dex_defs.specs.ClassDefs.{IsSource, none}
use Rattle.dex_read.specs.declared.code.CodeItem.{CodeItem}
use Rattle.dex_read.specs.Classes.{index_at, def_at, interfaces_at}
use Rattle.dex_read.specs.Code.{item_at, units_at, body_at, sizes_for, of_code}
use Rattle.dex_read.specs.Faults.{of_pool}
use Rattle.dex_read.specs.Tables.{sizes_in}
use Rattle.code_read.specs.Code.{code_of}
use Rattle.file_laws.specs.Founds.{Founds}
use Rattle.file_laws.specs.Items.{HasItem, IsItemBody}
use Rattle.file_laws.proofs.Founding.{known, weaker, done, when, either, next, lifted}
use Rattle.file_laws.proofs.Items.{founds_item}
use Rattle.file_laws.specs.Class.{IsReadDef, IsReadItem}
use Rattle.file_laws.proofs.Words.{finds_word, finds_half, finds_need}

-- ---- class_defs

record IsEntry (bytes : List ℕ) (at size : ℕ) (may : Bool) (n : ℕ) : Type 0 where
  is : Is32 bytes at n
  inside : (ltb n size || (may && eqb n none)) ≡ true

founds_entry : (bytes : List ℕ) (at size : ℕ) (may : Bool) → Founds (IsEntry bytes at size may) (index_at bytes at size may)
unfolding index_at
founds_entry bytes at size may = weaker (index_at bytes at size may) (next (known (finds_word bytes at)) (λ n _. when _ (done n)))
    (λ y p. subst (IsEntry bytes at size may) (sym p.2.1) (record { is = p.1; inside = p.2.0 }))

must : (n size : ℕ) → (ltb n (min size 4294967295) || (false && eqb n none)) ≡ true → n < size
must n size h = elim (or_cases (ltb n (min size 4294967295)) (false && eqb n none) h) [
  | inl e ↦ omega (arith, ltb-true n (min size 4294967295) e, min-le_left size 4294967295)
  | inr e ↦ absurd (true≢false (sym e))
]

may_be : (n size : ℕ) → (ltb n (min size 4294967295) || (true && eqb n none)) ≡ true → (n ≡ none → ⊥) → n < size
may_be n size h other = elim (or_cases (ltb n (min size 4294967295)) (true && eqb n none) h) [
  | inl e ↦ omega (arith, ltb-true n (min size 4294967295) e, min-le_left size 4294967295)
  | inr e ↦ absurd (other (eqb-true n none e))
]

by_source : (size n : ℕ) (b : Bool) → eqb n none ≡ b → ((n ≡ none → ⊥) → n < size) → IsSource size n (cond b None (Some n))
by_source size n true e h = eqb-true n none e
by_source size n false e h = (refl, h (λ is. true≢false (sym (eq-eqb n none is) ∙ e)))

pub founds_def : (bytes : List ℕ) (p : Program) (at : ℕ) → Founds (IsReadDef bytes p at) (def_at bytes p at)
unfolding def_at
founds_def bytes p at = weaker (def_at bytes p at)
    (next (founds_entry bytes at (sizes_in p).types false) (λ class _.
    next (known (finds_word bytes (at + 4))) (λ flags _.
    next (founds_entry bytes (at + 8) (sizes_in p).types true) (λ superclass _.
    next (known (finds_word bytes (at + 12))) (λ interfaces _.
    next (founds_entry bytes (at + 16) (sizes_in p).strings true) (λ source _.
    next (known (finds_word bytes (at + 20))) (λ annotations _.
    next (known (finds_word bytes (at + 24))) (λ data_at _.
    next (known (finds_word bytes (at + 28))) (λ static_values _.
    done (record { class = class; flags = flags; superclass = superclass; interfaces = interfaces; source = source; annotations = annotations; data_at = data_at; static_values = static_values }))))))))))
    (λ y q.
    let superclass = q.2.2 in let source = superclass.2.2 in let data_at = source.2.2 in
    subst (IsReadDef bytes p at) (sym data_at.2.2) (record {
      is = record {
        name = q.1.is;
        flags = q.2.1;
        superclass = superclass.1.is;
        interfaces = superclass.2.1;
        source = source.1.is;
        annotations = source.2.1;
        data_at = data_at.1;
        values = data_at.2.1;
      };
      is_type = must q.0 (length p.types) q.1.inside;
      above = may_be superclass.0 (length p.types) superclass.1.inside;
      source = by_source (length p.strings) source.0 (eqb source.0 none) refl (may_be source.0 (length p.strings) source.1.inside);
    }))

-- ---- interfaces

wider_entries : (bytes : List ℕ) (base size more from : ℕ) (types : List ℕ) → size ≤ more → Each (λ i n. IsHalfIndex bytes (base + 2 * i) size n) from types → Each (λ i n. IsHalfIndex bytes (base + 2 * i) more n) from types
wider_entries bytes base size more from [] le h = tt
wider_entries bytes base size more from (t ∷ ts) le h = (record { is = h.0.is; below = omega (arith, h.0.below, le) }, wider_entries bytes base size more (suc from) ts le h.1)

wider_list : (bytes : List ℕ) (at size more : ℕ) (types : List ℕ) → size ≤ more → IsTypeList bytes at size types → IsTypeList bytes at more types
wider_list bytes at size more types le h = record { count = h.count; inside = h.inside; entries = (h.entries.0, wider_entries bytes (at + 4) size more 0 types le h.entries.1) }

by_offset : (bytes : List ℕ) (more offset : ℕ) (types : List ℕ) → (offset ≡ 0 → ⊥) → IsTypeList bytes offset more types → AreParameters bytes more offset types
by_offset bytes more zero types other h = absurd (other refl)
by_offset bytes more (suc k) types other h = h

pub founds_interfaces : (bytes : List ℕ) (p : Program) (offset left : ℕ) → Founds (λ r. AreParameters bytes (length p.types) offset r.0) (interfaces_at bytes p offset left)
unfolding interfaces_at
founds_interfaces bytes p offset left = either
    (λ e. weaker (Ok ([], left)) (done ([], left)) (λ y q. subst (λ (r : List ℕ × ℕ). AreParameters bytes (length p.types) offset r.0) (sym q) (subst (λ n. AreParameters bytes (length p.types) n []) (sym (eqb-true offset 0 e)) refl)))
    (λ e. weaker (raise of_pool (type_list_at bytes offset (sizes_in p).types left)) (lifted of_pool (known (finds_type_list bytes offset (sizes_in p).types left)))
    (λ y q. by_offset bytes (length p.types) offset y.0 (λ is. true≢false (sym (eq-eqb offset 0 is) ∙ e)) (wider_list bytes offset (sizes_in p).types (length p.types) y.0 (min-le_left (length p.types) 4294967295) q.0)))

-- ---- code items

pub founds_frame : (bytes : List ℕ) (at : ℕ) → Founds (IsReadItem bytes at) (item_at bytes at)
unfolding item_at
founds_frame bytes at = weaker (item_at bytes at)
    (next (known (finds_need bytes at 16)) (λ begins _.
    next (known (finds_half bytes at)) (λ registers _.
    next (known (finds_half bytes (at + 2))) (λ ins _.
    next (known (finds_half bytes (at + 6))) (λ tries _.
    next (known (finds_word bytes (at + 8))) (λ debug _.
    next (known (finds_word bytes (at + 12))) (λ size _.
    next (known (finds_need bytes at _)) (λ whole _. done _))))))))
    (λ y q.
    let registers = q.2 in let ins = registers.2 in let tries = ins.2 in let debug = tries.2 in let size = debug.2 in
    subst (IsReadItem bytes at) (sym size.2.2) (record {
      frame = record { registers = registers.0; ins = ins.0; outs = from_le_bytes w16 (take 2 (drop (at + 4) bytes)); tries = tries.0; debug = debug.0; size = size.0 };
      is = record { registers = registers.1; ins = ins.1; outs = record { inside = omega (arith, q.1); spelled = refl }; tries = tries.1; debug = debug.1; size = size.1 };
      registers = refl;
      ins = refl;
      tries = refl;
      debug = refl;
      size = refl;
      units_at = refl;
      tries_begin = omega arith;
    }))

founds_units : (bytes : List ℕ) (at count : ℕ) → Founds (λ units. (length units ≡ count) × Each (λ i unit. Is16 bytes (at + 2 * i) unit) 0 units) (units_at bytes at count)
unfolding units_at
founds_units bytes at count = known (finds_each (λ i unit. Is16 bytes (at + 2 * i) unit) _ (λ i. finds_half bytes (at + 2 * i)) 0 count)

has_item : (bytes : List ℕ) (at : ℕ) (p : Program) (item : CodeItem) (left : ℕ) (is : IsReadItem bytes at item) (units : List ℕ) → (length units ≡ item.size) × Each (λ i unit. Is16 bytes (item.units_at + 2 * i) unit) 0 units → HasItem bytes at is.frame units (sizes_for p item left)
has_item bytes at p item left is units h = record {
  frame = is.is;
  many = h.0 ∙ is.size;
  are_units = subst (λ n. Each (λ i unit. Is16 bytes (n + 2 * i) unit) 0 units) is.units_at h.1;
  registers = is.registers;
  ins = is.ins;
  tries = is.tries;
}

pub founds_body : (bytes : List ℕ) (at : ℕ) (p : Program) (method left : ℕ) (item : CodeItem) → (is : IsReadItem bytes at item) → item.size < 2 ^ 32 → Founds (IsItemBody bytes (sizes_in p).types at is.frame) (body_at bytes p method item left)
unfolding body_at
founds_body bytes at p method left item is few = weaker (body_at bytes p method item left)
    (next (founds_units bytes item.units_at item.size) (λ units h. lifted (of_code method)
    (subst (λ n. Founds (IsItemBody bytes (sizes_in p).types at is.frame) (code_of units (drop n bytes) (sizes_for p item left))) (sym is.tries_begin)
    (founds_item bytes at is.frame units (sizes_for p item left) (has_item bytes at p item left is units h) (omega (arith, few, is.size))))))
    (λ y q. q.2)
