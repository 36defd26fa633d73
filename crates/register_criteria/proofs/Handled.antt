-- Registers that are live at the handlers of a region.
use Rattle.std.proofs.Common.{◌≡◌, ℕ, Bool, false, true, ◌||◌, List, [], ◌∷◌, ◌++◌, map, Option, Some, None, option_to_list, refl, sym, ap, ◌∙◌}
use Rattle.std.specs.List.{list_any}
use Rattle.std.proofs.lemmas.List.Folds.{list_any-append}
use Rattle.program_model.specs.declared.body.Handler.{Handler}
use Rattle.program_model.specs.declared.body.Region.{Region}
use Rattle.flow_cfg.specs.Walks.{handlers_in}
use Rattle.live_regs.specs.Live.{is_live}
use Rattle.live_regs.specs.declared.table.Live.{Live}

or_false : (t : Bool) → (t || false) ≡ t
or_false true = refl
or_false false = refl

any_map : (p : ℕ → Bool) (hs : List Handler) → list_any (λ h. p h.position) hs ≡ list_any p (map (λ h. h.position) hs)
any_map p [] = refl
any_map p (h ∷ hs) = ap (λ (t : Bool). p h.position || t) (any_map p hs)

pub handled_rest : (live : Live) (region : Region) (n r : ℕ) → region.rest ≡ Some n → (list_any (λ h. is_live live h.position r) region.handlers || is_live live n r) ≡ list_any (λ m. is_live live m r) (handlers_in region)
handled_rest live region n r e =
    ap (λ (t : Bool). t || is_live live n r) (any_map (λ m. is_live live m r) region.handlers)
    ∙ ap (λ (t : Bool). list_any (λ m. is_live live m r) (map (λ h. h.position) region.handlers) || t) (sym (or_false (is_live live n r)))
    ∙ sym (list_any-append (λ m. is_live live m r) (map (λ h. h.position) region.handlers) (n ∷ []))
    ∙ ap (λ (o : Option ℕ). list_any (λ m. is_live live m r) (map (λ h. h.position) region.handlers ++ option_to_list o)) (sym e)

pub handled_alone : (live : Live) (region : Region) (r : ℕ) → region.rest ≡ None → list_any (λ h. is_live live h.position r) region.handlers ≡ list_any (λ m. is_live live m r) (handlers_in region)
handled_alone live region r e =
    any_map (λ m. is_live live m r) region.handlers
    ∙ sym (or_false (list_any (λ m. is_live live m r) (map (λ h. h.position) region.handlers)))
    ∙ sym (list_any-append (λ m. is_live live m r) (map (λ h. h.position) region.handlers) [])
    ∙ ap (λ (o : Option ℕ). list_any (λ m. is_live live m r) (map (λ h. h.position) region.handlers ++ option_to_list o)) (sym e)
