use Rattle.std.proofs.Common.{◌≡◌, ◌∙◌, Some, ap, option_map, refl, sym}
use Rattle.std.specs.Prelude.{is_none}
use Rattle.ca_model.specs.Client.{Client, On, Searching, connection_at, standing_at}
use Rattle.ca_model.specs.Client as phase
use Rattle.ca_model.specs.ClientCalls.{unwanted}
use Rattle.ca_client_tables.specs.declared.channel.Standing.{Standing}
use Rattle.ca_client_tables.specs.declared.channel.Standing.TheVariants as standing
use Rattle.ca_client_tables.specs.declared.channel.Phase.{Phase}
use Rattle.ca_client_tables.specs.Forms.{native_of, standing_of}
use Rattle.ca_client_core.proofs.Cleared.{header_only-early, header_only-searched, cleared-header_only, cleared-live, waits-there}
use Rattle.ca_client_core.proofs.client.ClientCore.clear.Goals as goal

pub let_unwanted_go-requires : goal.let_unwanted_go-requires
let_unwanted_go-requires c =
    let x = c.args.self.now in
    let h = c.args.channel in
    let found : c.standing.result ≡ Some (standing.On c.in-On.circuit c.in-On.phase) = c.in-Some.is ∙ ap (λ (s : Standing). Some s) c.in-On.is in
    let at : standing_at x h ≡ Some (On c.in-On.circuit (phase.Connecting)) =
    sym c.standing.ensures ∙ ap (option_map standing_of) found ∙ ap (λ (p : Phase). option_map standing_of (Some (standing.On c.in-On.circuit p))) c.in-Connecting.is in
    ap (λ (y : Client). is_none (connection_at y c.in-On.circuit)) c.let_channel_go-in-Connecting.ensures ∙ waits-there x h c.in-On.circuit at c.know.ensures

pub returns-in-Searching : goal.returns-in-Searching
returns-in-Searching c =
    let x = c.args.self.now in
    let h = c.args.channel in
    let at : standing_at x h ≡ Some Searching =
    sym c.standing.ensures ∙ ap (option_map standing_of) (c.in-Some.is ∙ ap (λ (s : Standing). Some s) c.in-Searching.is) in
    cleared-header_only x c.let_channel_go.new.self h Searching c.none.result c.none.ensures at refl (header_only-searched x h at c.know.ensures) c.let_channel_go.ensures

pub returns-in-Connecting : goal.returns-in-Connecting
returns-in-Connecting c =
    let x = c.args.self.now in
    let h = c.args.channel in
    let found : c.standing.result ≡ Some (standing.On c.in-On.circuit c.in-On.phase) = c.in-Some.is ∙ ap (λ (s : Standing). Some s) c.in-On.is in
    let at : standing_at x h ≡ Some (On c.in-On.circuit (phase.Connecting)) =
    sym c.standing.ensures ∙ ap (option_map standing_of) found ∙ ap (λ (p : Phase). option_map standing_of (Some (standing.On c.in-On.circuit p))) c.in-Connecting.is in
    cleared-header_only x c.let_unwanted_go.new.self h (On c.in-On.circuit phase.Connecting) c.none-in-Connecting.result c.none-in-Connecting.ensures at refl (header_only-early x h c.in-On.circuit phase.Connecting at refl c.know.ensures)
    (c.let_unwanted_go.ensures ∙ ap (λ (y : Client). unwanted c.in-On.circuit y) c.let_channel_go-in-Connecting.ensures)

pub returns-in-Creating : goal.returns-in-Creating
returns-in-Creating c =
    let x = c.args.self.now in
    let h = c.args.channel in
    let found : c.standing.result ≡ Some (standing.On c.in-On.circuit c.in-On.phase) = c.in-Some.is ∙ ap (λ (s : Standing). Some s) c.in-On.is in
    let at : standing_at x h ≡ Some (On c.in-On.circuit (phase.Creating c.in-Creating.field-0)) =
    sym c.standing.ensures ∙ ap (option_map standing_of) found ∙ ap (λ (p : Phase). option_map standing_of (Some (standing.On c.in-On.circuit p))) c.in-Creating.is in
    cleared-header_only x c.doom.new.self h (On c.in-On.circuit (phase.Creating c.in-Creating.field-0)) c.none-in-Creating.result c.none-in-Creating.ensures at refl (header_only-early x h c.in-On.circuit (phase.Creating c.in-Creating.field-0) at refl c.know.ensures) c.doom.ensures

pub returns-in-Live : goal.returns-in-Live
returns-in-Live c =
    let x = c.args.self.now in
    let h = c.args.channel in
    let found : c.standing.result ≡ Some (standing.On c.in-On.circuit c.in-On.phase) = c.in-Some.is ∙ ap (λ (s : Standing). Some s) c.in-On.is in
    let at : standing_at x h ≡ Some (On c.in-On.circuit (phase.Live (native_of c.in-Live.native) c.in-Live.field-1)) =
    sym c.standing.ensures ∙ ap (option_map standing_of) found ∙ ap (λ (p : Phase). option_map standing_of (Some (standing.On c.in-On.circuit p))) c.in-Live.is in
    cleared-live x c.clear_live.new.self h c.in-On.circuit (native_of c.in-Live.native) c.in-Live.field-1 c.clear_live.result at c.clear_live.ensures
