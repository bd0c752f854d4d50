-- One step in handing completions over.
use Rattle.std.proofs.Common.{◌≡◌, suc, List, [], ◌∷◌, ◌++◌, length, Some, None, refl, sym, ap, ◌∙◌, subst}
use Rattle.std.specs.Prelude.{is_none}
use Rattle.std.proofs.lemmas.List.Elements.{filter-append, filter_map-append}
use Rattle.ca_board.specs.declared.ticket.Ticket.{Ticket}
use Rattle.ca_board.specs.Views.{CoreView}
use Rattle.ca_client_core.specs.Notices.{Completion, TakesCompletion, completed, completion, completions}
use Rattle.ca_model.specs.Answers.{Notice}
use Rattle.ca_client.specs.Awaited.{Fillable, Fills, FillsAll, others, ticket_of}
use Rattle.ca_client.specs.Filling.{Filling}
use Rattle.ca_client.proofs.Lists.{others-all}

-- a completion was taken
taken : (left new : List Notice) (c : Completion) → TakesCompletion left (Some c) new → (completions left ≡ c ∷ completions new) × (others left ≡ others new)
taken left new c t =
    let before : List Notice = t.0 in
    let after : List Notice = t.1 in
    let rest : completions new ≡ completions after =
    ap completions t.4 ∙ filter_map-append completion before after ∙ ap (λ (cs : List Completion). cs ++ completions after) t.3 in
    let test = λ (n : Notice). is_none (completion n) in (
      ap completions t.2 ∙ filter_map-append completion before (completed c ∷ after) ∙ ap (λ (cs : List Completion). cs ++ c ∷ completions after) t.3
          ∙ ap (λ (cs : List Completion). c ∷ cs) (sym rest),
      ap others t.2 ∙ filter-append test before (completed c ∷ after) ∙ sym (filter-append test before after) ∙ sym (ap others t.4),
    )

module _ (ts : List Ticket) (v₀ v : CoreView) (ns left new : List Notice) (f : Filling ts v₀ ns v left) where
  -- its ticket is to be filled
  pub filling-due : (c : Completion) → TakesCompletion left (Some c) new → Fillable ts v (c ∷ [])
  filling-due c t =
      let due : Fillable ts v (c ∷ completions new) = subst (Fillable ts v) (taken left new c t).0 f.due in
      (due.0, due.1, λ u g. tt)

  pub filling-next : (u : CoreView) (c : Completion) → TakesCompletion left (Some c) new → FillsAll ts v (c ∷ []) u → Filling ts v₀ ns u new
  filling-next u c t g =
      let is = taken left new c t in
      let due : Fillable ts v (c ∷ completions new) = subst (Fillable ts v) is.0 f.due in
      let filled : Fills v (ticket_of ts c.0) c.1 u = subst (λ (x : CoreView). Fills v (ticket_of ts c.0) c.1 x) (sym g.2) g.1 in
      record {
        due = due.2 u filled;
        others = sym is.1 ∙ f.others;
        fills = λ w h. f.fills w (subst (λ (cs : List Completion). FillsAll ts v cs w) (sym is.0) (u, filled, h));
      }

  pub filling-end : TakesCompletion left None new → FillsAll ts v₀ (completions ns) v × (new ≡ others ns)
  filling-end t = (
    f.fills v (subst (λ (cs : List Completion). FillsAll ts v cs v) (sym t.0) refl),
    t.1 ∙ sym (others-all left t.0) ∙ f.others,
  )

-- fewer completions are left
pub fewer : (left new : List Notice) (c : Completion) → TakesCompletion left (Some c) new → length (completions left) ≡ suc (length (completions new))
fewer left new c t = ap (λ (cs : List Completion). length cs) (taken left new c t).0
