-- Readings of class_defs and class data none of whose faults is that of a limit.
use Rattle.std.proofs.Common.{ℕ, suc, ◌+◌, Bool, true, false, cond, eqb, List, [], ◌∷◌, min, Err, refl}
use Rattle.dex_base.specs.Leb.{uleb_at}
use Rattle.dex_base.specs.Word.{u32_at}
use Rattle.program_model.specs.declared.program.Class.{Class}
use Rattle.program_model.specs.declared.program.Program.{Program}
use Rattle.dex_pools.specs.declared.fault.PoolFault.TheVariants as pool
use Rattle.dex_pools.specs.declared.fault.Table.TheVariants as table
use Rattle.dex_read.specs.declared.class_data.Listed.{Listed}
use Rattle.dex_read.specs.declared.class_defs.ClassDef.{ClassDef}
use Rattle.dex_read.specs.declared.fault.DexFault.TheVariants as dex
use Rattle.dex_read.specs.declared.members.Owner.{Owner}
use Rattle.dex_read.specs.ClassData.{stepped_at, ascends_at, field_entry_at, method_entry_at, field_at, method_at, fields_at, methods_at, members_at}
use Rattle.dex_read.specs.Classes.{index_at, def_at, root_at, no_members, listed_at}
use Rattle.dex_read.specs.Standing.{each_stands}
use Rattle.dex_read.specs.Tables.{sizes_in}
use Rattle.refused_law.proofs.Failing.{sound, fails_with, unless, fails_next, fails_run}
use Rattle.past_law.proofs.Plain.{plain_or, plain_dex_base}
use Rattle.past_law.proofs.Taking.{limit_of_dex, Plain}

module _ (bytes : List ℕ) where
  -- ---- entries

  plain_step : (size before at : ℕ) → Plain limit_of_dex (stepped_at bytes size before at)
  unfolding stepped_at
  plain_step size before at = fails_next (plain_dex_base (uleb_at bytes at)) (λ step _.
      unless (dex.Pool (pool.Index at (min (before + step.0) 4294967295) size)) (λ _. refl) (λ _. sound (before + step.0, step.1)))

  plain_order : (place before number : ℕ) → Plain limit_of_dex (ascends_at place before number)
  unfolding ascends_at
  plain_order place before number = unless (dex.Pool (pool.Order table.Members place)) (λ _. refl) (λ _. sound tt)

  plain_field_entry : (size place : ℕ) (s : ℕ × ℕ) → Plain limit_of_dex (field_entry_at bytes size place s)
  unfolding field_entry_at
  plain_field_entry size place s =
      fails_next (plain_step size s.1 s.0) (λ number _.
      fails_next (plain_dex_base (uleb_at bytes number.1)) (λ flags _.
      fails_next (plain_order place s.1 number.0) (λ order _. sound (record { number = number.0; flags = record { 0 = flags.0 }; code = 0 }, (flags.1, number.0)))))

  plain_method_entry : (size place : ℕ) (s : ℕ × ℕ) → Plain limit_of_dex (method_entry_at bytes size place s)
  unfolding method_entry_at
  plain_method_entry size place s =
      fails_next (plain_step size s.1 s.0) (λ number _.
      fails_next (plain_dex_base (uleb_at bytes number.1)) (λ flags _.
      fails_next (plain_dex_base (uleb_at bytes flags.1)) (λ code _.
      fails_next (plain_order place s.1 number.0) (λ order _. sound (record { number = number.0; flags = record { 0 = flags.0 }; code = code.0 }, (code.1, number.0))))))

  module _ (p : Program) (owner : Owner) where
    -- ---- lists

    plain_field : (static : Bool) (earlier : List Listed) (place : ℕ) (s : ℕ × ℕ) → Plain limit_of_dex (field_at bytes p owner static earlier place s)
    unfolding field_at
    plain_field static earlier place s = fails_next (plain_field_entry (sizes_in p).fields place s) (λ e _. unless (dex.Member owner.place place) (λ _. refl) (λ _. sound e))

    plain_method : (direct : Bool) (earlier : List Listed) (place : ℕ) (s : ℕ × ℕ) → Plain limit_of_dex (method_at bytes p owner direct earlier place s)
    unfolding method_at
    plain_method direct earlier place s = fails_next (plain_method_entry (sizes_in p).methods place s) (λ e _. unless (dex.Member owner.place place) (λ _. refl) (λ _. sound e))

    plain_fields : (static : Bool) (earlier : List Listed) (count at : ℕ) → Plain limit_of_dex (fields_at bytes p owner static earlier count at)
    plain_fields static earlier count at = fails_run (field_at bytes p owner static earlier) 0 count (at, 0) (λ i s _. plain_field static earlier i s)

    plain_methods : (direct : Bool) (earlier : List Listed) (count at : ℕ) → Plain limit_of_dex (methods_at bytes p owner direct earlier count at)
    plain_methods direct earlier count at = fails_run (method_at bytes p owner direct earlier) 0 count (at, 0) (λ i s _. plain_method direct earlier i s)

    plain_members : (at : ℕ) → Plain limit_of_dex (members_at bytes p owner at)
    unfolding members_at
    plain_members at =
        fails_next (plain_dex_base (uleb_at bytes at)) (λ c0 _.
        fails_next (plain_dex_base (uleb_at bytes c0.1)) (λ c1 _.
        fails_next (plain_dex_base (uleb_at bytes c1.1)) (λ c2 _.
        fails_next (plain_dex_base (uleb_at bytes c2.1)) (λ c3 _.
        fails_next (plain_fields true [] c0.0 c3.1) (λ statics _.
        fails_next (plain_fields false statics.0 c1.0 statics.1.0) (λ instances _.
        fails_next (plain_methods true [] c2.0 instances.1.0) (λ directs _.
        fails_next (plain_methods false directs.0 c3.0 directs.1.0) (λ virtuals _.
        sound (record { statics = statics.0; instances = instances.0; directs = directs.0; virtuals = virtuals.0 })))))))))

    pub plain_listed : (offset : ℕ) → Plain limit_of_dex (listed_at bytes p owner offset)
    plain_listed offset = plain_or limit_of_dex (eqb offset 0) no_members (members_at bytes p owner offset) (plain_members offset)

  -- ---- class_defs

  plain_index : (at size : ℕ) (may : Bool) → Plain limit_of_dex (index_at bytes at size may)
  unfolding index_at
  plain_index at size may = fails_next (plain_dex_base (u32_at bytes at)) (λ n _. unless (dex.Pool (pool.Index at n size)) (λ _. refl) (λ _. sound n))

  pub plain_def : (p : Program) (at : ℕ) → Plain limit_of_dex (def_at bytes p at)
  unfolding def_at
  plain_def p at =
      fails_next (plain_index at (sizes_in p).types false) (λ name _.
      fails_next (plain_dex_base (u32_at bytes (at + 4))) (λ flags _.
      fails_next (plain_index (at + 8) (sizes_in p).types true) (λ superclass _.
      fails_next (plain_dex_base (u32_at bytes (at + 12))) (λ interfaces _.
      fails_next (plain_index (at + 16) (sizes_in p).strings true) (λ source _.
      fails_next (plain_dex_base (u32_at bytes (at + 20))) (λ annotations _.
      fails_next (plain_dex_base (u32_at bytes (at + 24))) (λ data_at _.
      fails_next (plain_dex_base (u32_at bytes (at + 28))) (λ static_values _.
      sound (record { class = name; flags = flags; superclass = superclass; interfaces = interfaces; source = source; annotations = annotations; data_at = data_at; static_values = static_values })))))))))

pub plain_root : (p : Program) (d : ClassDef) (interfaces : List ℕ) (place : ℕ) → Plain limit_of_dex (root_at p d interfaces place)
unfolding root_at
plain_root p d interfaces place = unless (dex.Root place) (λ _. refl) (λ _. sound tt)

pub plain_stands : (stands : Class → Bool) (place : ℕ) (cs : List Class) → Plain limit_of_dex (each_stands stands place cs)
plain_stands stands place [] = sound tt
plain_stands stands place (c ∷ cs) = by_first (stands c) (plain_stands stands (suc place) cs)
  where
    by_first : (b : Bool) → Plain limit_of_dex (each_stands stands (suc place) cs) → Plain limit_of_dex (cond b (each_stands stands (suc place) cs) (Err (dex.Root place)))
    by_first true h = h
    by_first false h = fails_with (dex.Root place) refl
