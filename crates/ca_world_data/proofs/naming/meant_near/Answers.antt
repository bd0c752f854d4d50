use Rattle.std.proofs.Common.{◌≡◌, ◌<◌, ℕ, true, List, length, get_or, map, refl, sym, ap, ◌∙◌, arith}
use Rattle.ca_arena.specs.declared.handle.Handle.{Handle}
use Rattle.ca_ids.specs.Table.{same_handle}
use Rattle.ca_text.specs.Place.{At}
use Rattle.ca_text.proofs.Places.{At-map}
use Rattle.ca_model.specs.ClientEvents.{meant_by}
use Rattle.ca_model.proofs.Handles.{same-is}
use Rattle.ca_world_data.specs.declared.history.Intent.{Intent}
use Rattle.ca_world_data.specs.Named.{MeanTheirs}
use Rattle.ca_world_data.specs.Seen.{intent_of, named_of}
use Rattle.ca_world_data.proofs.Worlds.{found}
use Rattle.ca_world_data.proofs.naming.meant_near.Goals as goal

-- what is beside the handle at this place is what that means
near : (named : List (Handle × Intent)) (place : ℕ) (d : Handle × Intent) (h : Handle) → MeanTheirs (map named_of named) → place < length named
    → same_handle (get_or named place d).0 h ≡ true → intent_of (get_or named place d).1 ≡ meant_by (map named_of named) h
near named place d h meant within same =
    let e : Handle × Intent = get_or named place d in
    let at : At named place e = found named place e d within refl in
    sym (meant place (named_of e) (At-map named_of named place e at)) ∙ ap (meant_by (map named_of named)) (same-is e.0 h same)

pub returns-then-is_same : goal.returns-then-is_same
returns-then-is_same c = near c.args.named.now c.args.place _ c.args.handle c.requires (omega (arith, c.if-place-named.true)) (sym c.is_same.ensures ∙ c.if-is_same.true)
