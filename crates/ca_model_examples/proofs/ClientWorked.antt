-- The worked rows whose bytes have to be computed.
use Rattle.std.proofs.Common.{refl}
use Rattle.std.specs.FinMap.{get-empty}
use Rattle.ca_dbr.specs.Elements.{signed_bytes_4}
use Rattle.ca_wire.specs.Header.{extended_header, header_spelling, number16, number32, short_header}
use Rattle.ca_wire.specs.Message.{spelling}
use Rattle.ca_model_examples.specs.ClientRows.{BeaconBoosts, CutLoses, FullDatagrams, Greets, LiveAndRead, NameIsWanted, OneSearch, ReadFaults, SearchesOnName, WriteFaults}

pub greets : Greets
unfolding spelling header_spelling short_header extended_header number16 number32
greets = (refl, refl)

pub live-and-read : LiveAndRead
unfolding spelling header_spelling short_header extended_header number16 number32
live-and-read = (refl, refl, refl, refl)

pub cut-loses : CutLoses
unfolding spelling header_spelling short_header extended_header number16 number32
cut-loses = (refl, refl, refl, refl, refl, refl)

pub name-is-wanted : NameIsWanted
unfolding spelling header_spelling short_header extended_header number16 number32
name-is-wanted = (refl, refl, refl, refl)

pub searches-on-name : SearchesOnName
unfolding spelling header_spelling short_header extended_header number16 number32
searches-on-name = (refl, refl, refl, refl, refl)

pub one-search : OneSearch
unfolding spelling header_spelling short_header extended_header number16 number32
one-search = refl

pub full-datagrams : FullDatagrams
unfolding spelling header_spelling short_header extended_header number16 number32
full-datagrams = (refl, refl)

pub read-faults : ReadFaults
unfolding spelling header_spelling short_header extended_header number16 number32
read-faults = (refl, refl, refl, refl, refl, refl)

pub write-faults : WriteFaults
unfolding spelling header_spelling short_header extended_header number16 number32 signed_bytes_4
write-faults = (refl, refl, refl, refl)

pub beacon-boosts : BeaconBoosts
beacon-boosts = (refl, rw (get-empty _) refl)
