-- An ERROR, by the header that it quotes.
use Rattle.std.proofs.Common.{◌≡◌, inl, inr, refl, sym}
use Rattle.std.proofs.lemmas.List.{take-append-drop}
use Rattle.std.specs.Prelude.{drop, take}
use Rattle.ca_arena.specs.declared.handle.Handle.{Handle}
use Rattle.ca_wire.specs.Fields.{Fields}
use Rattle.ca_wire.specs.declared.reading.Head.{Head}
use Rattle.ca_wire.specs.Reading.{BeginsHeader, NoHeader}
use Rattle.ca_requests.specs.Meaning.{QuotesHeader}
use Rattle.ca_model.specs.Client.{Client}
use Rattle.ca_model.specs.Hears.{Effect, Fails, becomes, failing}

pub error-quotes : (x : Client) (c : Handle) (m : Fields) (e : Effect) (head : Head) → BeginsHeader m.payload head → e ≡ failing x c m head.header → Fails x c m e
error-quotes x c m e head begins is =
    let quotes : QuotesHeader m head.header = record {
      head = take head.start m.payload;
      text = drop head.start m.payload;
      spells = begins.header;
      parts = sym (take-append-drop head.start m.payload);
    } in
    inl (head.header, quotes, is)

pub error-none : (x : Client) (c : Handle) (m : Fields) → NoHeader m.payload → Fails x c m (becomes x)
error-none x c m none = inr (λ h quotes. none h quotes.head quotes.text quotes.spells quotes.parts, refl)
