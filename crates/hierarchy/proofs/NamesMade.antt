-- The tables of names are those of the program.
use Rattle.std.proofs.Common.{◌≡◌, ℕ, ◌-◌, ◌^◌, ◌<◌, true, List, length, ap, subst, ◌∙◌}
use Rattle.program_model.specs.declared.pools.FieldName.{FieldName}
use Rattle.program_model.specs.declared.pools.MethodName.{MethodName}
use Rattle.program_model.specs.declared.program.Class.{Class}
use Rattle.program_model.specs.declared.program.Program.{Program}
use Rattle.program_model.specs.ProgramRules.{is_well_formed}
use Rattle.hierarchy.specs.declared.keys.Keys.{Keys}
use Rattle.hierarchy.specs.declared.members.Members.{Members}
use Rattle.hierarchy.specs.Membership.{AreKeys, field_pair, method_pair, AreShort, IsIndex, field_rows, method_rows}
use Rattle.hierarchy.proofs.Short.{few_names, has_short_rows}

pub fields_keyed : (p : Program) (keys : Keys) (fs : List FieldName) → is_well_formed p ≡ true → fs ≡ p.fields → (length fs < 2 ^ 32 - 1 → AreKeys field_pair fs keys.keys.items keys.count)
    → AreKeys field_pair p.fields keys.keys.items keys.count
fields_keyed p keys fs h f made = subst (λ l. length l < 2 ^ 32 - 1 → AreKeys field_pair l keys.keys.items keys.count) f made (few_names p h).0

pub methods_keyed : (p : Program) (keys : Keys) (ms : List MethodName) → is_well_formed p ≡ true → ms ≡ p.methods → (length ms < 2 ^ 32 - 1 → AreKeys method_pair ms keys.keys.items keys.count)
    → AreKeys method_pair p.methods keys.keys.items keys.count
methods_keyed p keys ms h m made = subst (λ l. length l < 2 ^ 32 - 1 → AreKeys method_pair l keys.keys.items keys.count) m made (few_names p h).1

pub fields_found : (p : Program) (members : Members) (cs : List Class) (own ks : List ℕ) (rows : List (List ℕ)) → is_well_formed p ≡ true → cs ≡ p.classes → ks ≡ own → rows ≡ field_rows ks cs → (AreShort rows → IsIndex rows members)
    → IsIndex (field_rows own p.classes) members
fields_found p members cs own ks rows h c k r made = subst (λ r. AreShort r → IsIndex r members) (r ∙ ap (λ q. field_rows q cs) k ∙ ap (field_rows own) c) made ((has_short_rows p h).fields own)

pub methods_found : (p : Program) (members : Members) (cs : List Class) (own ks : List ℕ) (rows : List (List ℕ)) → is_well_formed p ≡ true → cs ≡ p.classes → ks ≡ own → rows ≡ method_rows ks cs → (AreShort rows → IsIndex rows members)
    → IsIndex (method_rows own p.classes) members
methods_found p members cs own ks rows h c k r made = subst (λ r. AreShort r → IsIndex r members) (r ∙ ap (λ q. method_rows q cs) k ∙ ap (method_rows own) c) made ((has_short_rows p h).methods own)
