-- What private functions promise each other. Nothing here has to be believed: no promise of a public call cites it.
use Rattle.std.specs.Prelude.{ℕ}
use Rattle.exports_telegrams.specs.Write.{sap_of}
use Rattle.telegram_bytes.specs.declared.coded.CodedHeader.{CodedHeader}

-- the header that is handed to the writer: `header_of` of `Write`, with the function code's byte in the place of the code
abbrev pub coded_header : ℕ → ℕ → ℕ → ℕ → ℕ → CodedHeader
coded_header da sa dsap ssap code =
    record { da = record { 0 = da }; sa = record { 0 = sa }; dsap = sap_of dsap; ssap = sap_of ssap; code = code }
