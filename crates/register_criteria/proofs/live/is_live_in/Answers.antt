use Rattle.std.proofs.Common.{◌≡◌, List, Bool, ◌||◌, sym, ap, ◌∙◌}
use Rattle.std.specs.List.{list_any}
use Rattle.std.proofs.lemmas.Bool.{or_left}
use Rattle.program_model.specs.declared.body.Handler.{Handler}
use Rattle.live_regs.specs.Live.{is_live}
use Rattle.register_criteria.proofs.Handled.{handled_rest, handled_alone}
use Rattle.register_criteria.proofs.live.is_live_in.Goals as goal

pub returns-then-handled : goal.returns-then-handled
returns-then-handled c =
    let live = c.args.live.now in
    let r = c.args.register in
    let handled : c.is_live_handled-handled.result ≡ list_any (λ h. is_live live h.position r) c.args.region.now.handlers =
    c.is_live_handled-handled.ensures ∙ ap (λ (l : List Handler). list_any (λ h. is_live live h.position r) l) c.as_slice.ensures in
    c.if-handled.true ∙ sym (or_left (list_any (λ h. is_live live h.position r) c.args.region.now.handlers) (is_live live c.in-Some.position r) (sym handled ∙ c.if-handled.true))
    ∙ handled_rest live c.args.region.now c.in-Some.position r c.in-Some.is

pub returns-else-handled : goal.returns-else-handled
returns-else-handled c =
    let live = c.args.live.now in
    let r = c.args.register in
    let handled : c.is_live_handled-handled.result ≡ list_any (λ h. is_live live h.position r) c.args.region.now.handlers =
    c.is_live_handled-handled.ensures ∙ ap (λ (l : List Handler). list_any (λ h. is_live live h.position r) l) c.as_slice.ensures in
    c.before-else-handled.ensures ∙ sym (ap (λ (t : Bool). t || is_live live c.in-Some.position r) (sym handled ∙ c.if-handled.false))
    ∙ handled_rest live c.args.region.now c.in-Some.position r c.in-Some.is

pub returns-in-None : goal.returns-in-None
returns-in-None c =
    c.is_live_handled-handled.ensures ∙ ap (λ (l : List Handler). list_any (λ h. is_live c.args.live.now h.position c.args.register) l) c.as_slice.ensures
    ∙ handled_alone c.args.live.now c.args.region.now c.args.register c.in-None.is
