-- Document 01's example and the cases around it, computed on the definitions; and what `bytes=` says of every input.
use Rattle.std.proofs.Common.{Some}
use mathlib.Core.Bool.{true}
use mathlib.Core.List.{List, [], ◌∷◌, ◌++◌, append_assoc}
use mathlib.Core.Path.{◌≡◌, refl}
use Prim.Native.Nat.{ℕ, ◌+◌, ◌≤◌}
use native.Mathlib.Omega.{arith}
use lib.ListN.{length, replicate, length-replicate}
use Rattle.codes.specs.Checksums.{sum_of, checksum_of}
use Rattle.codes.specs.FunctionCodes.{function_code_of}
use Rattle.codes.specs.RequestTypes.{request_type_of}
use Rattle.codes.specs.Responses.{state_of, status_of}
use Rattle.telegram.specs.Reading.{header_at, saps_at, read_of}
use Rattle.telegram.specs.Stream.{stream_from, stream_of}
use Rattle.telegram_strict.specs.declared.strict.Mode.TheVariants.{Default, Strict}
use Rattle.telegram_strict.specs.Strict.{past_lengths, start_of, strict_of}
use Rattle.text.specs.Begins.{begins}
use Rattle.text.specs.Decimal.{digits, decimal_of, is_digit, digits_in, number_at}
use Rattle.text.specs.Quoted.{bytes_of}
use Rattle.text.proofs.ReadingLaws.{number_written}
use Rattle.listing_lines.specs.Lines.{place_of, header_of, content_of, line_of, end_of}
use Rattle.listing.specs.Listing.{stream_text, bytes_line, listing_in, listing_of, output_of}
use Rattle.listing.proofs.AnswerLaws.{output_long}

-- an input, and its listing as quoted
abbrev Lists : List ℕ → List ℕ → Type 0
Lists input text = listing_of input ≡ text

pub record ListingSamples : Type 0 where
  pub document01 : Lists
      (0xE5 ∷ 0xDC ∷ 0x05 ∷ 0x02 ∷ 0x10 ∷ 0x05 ∷ 0x02 ∷ 0x49 ∷ 0x50 ∷ 0x16 ∷ [])
      (bytes_of "bytes=10\n"
      ++ bytes_of "at=0 kind=ack len=1 da=- sa=- dsap=- ssap=- fc=- pdu=-\n"
      ++ bytes_of "at=1 kind=token len=3 da=5 sa=2 dsap=- ssap=- fc=- pdu=-\n"
      ++ bytes_of "at=4 kind=data len=6 da=5 sa=2 dsap=- ssap=- fc=73 pdu=0\n"
      ++ bytes_of "end=done at=10\n")
  pub empty : Lists [] (bytes_of "bytes=0\nend=done at=0\n")
  pub unknown_in_the_middle : Lists
      (0xE5 ∷ 0x00 ∷ 0xE5 ∷ [])
      (bytes_of "bytes=3\nat=0 kind=ack len=1 da=- sa=- dsap=- ssap=- fc=- pdu=-\nend=refused-1 at=1\n")
  pub cut_at_the_end : Lists
      (0xE5 ∷ 0x10 ∷ 0x05 ∷ 0x02 ∷ 0x49 ∷ 0x50 ∷ [])
      (bytes_of "bytes=6\nat=0 kind=ack len=1 da=- sa=- dsap=- ssap=- fc=- pdu=-\nend=incomplete at=1\n")
  -- the PDU without SAPs
  pub saps : Lists
      (0x68 ∷ 0x05 ∷ 0x05 ∷ 0x68 ∷ 0x85 ∷ 0x82 ∷ 0x6C ∷ 0x3C ∷ 0x3E ∷ 0xED ∷ 0x16 ∷ [])
      (bytes_of "bytes=11\nat=0 kind=data len=11 da=5 sa=2 dsap=60 ssap=62 fc=108 pdu=0\nend=done at=11\n")
  pub order : Lists
      (0x68 ∷ 0x05 ∷ 0x05 ∷ 0x68 ∷ 0x05 ∷ 0x02 ∷ 0x5C ∷ 0x01 ∷ 0x03 ∷ 0x67 ∷ 0x16 ∷ [])
      (bytes_of "bytes=11\nat=0 kind=data len=11 da=5 sa=2 dsap=- ssap=- fc=92 pdu=2\nend=done at=11\n")
  -- bit 7 of a response, as it was received
  pub bit7 : Lists
      (0x10 ∷ 0x00 ∷ 0x00 ∷ 0x80 ∷ 0x80 ∷ 0x16 ∷ [])
      (bytes_of "bytes=6\nat=0 kind=data len=6 da=0 sa=0 dsap=- ssap=- fc=128 pdu=0\nend=done at=6\n")
  -- a token's addresses are whole bytes
  pub whole_bytes : Lists
      (0xDC ∷ 0xFF ∷ 0x80 ∷ [])
      (bytes_of "bytes=3\nat=0 kind=token len=3 da=255 sa=128 dsap=- ssap=- fc=- pdu=-\nend=done at=3\n")
  -- in strict mode the list ends at the first sloppy telegram; document 01's goes on
  pub strict_fourth : listing_in Strict
      (0xE5 ∷ 0x68 ∷ 0x04 ∷ 0x04 ∷ 0x00 ∷ 0x00 ∷ 0x00 ∷ 0x00 ∷ 0x00 ∷ 0x00 ∷ 0x16 ∷ [])
      ≡ bytes_of "bytes=11\nat=0 kind=ack len=1 da=- sa=- dsap=- ssap=- fc=- pdu=-\nend=refused-25 at=1\n"
  pub strict_length : listing_in Strict
      (0xE5 ∷ 0x68 ∷ 0x03 ∷ 0x03 ∷ 0x68 ∷ 0x00 ∷ 0x00 ∷ 0x00 ∷ 0x00 ∷ 0x16 ∷ [])
      ≡ bytes_of "bytes=10\nat=0 kind=ack len=1 da=- sa=- dsap=- ssap=- fc=- pdu=-\nend=refused-24 at=1\n"
  pub sloppy_listed : Lists
      (0x68 ∷ 0x03 ∷ 0x03 ∷ 0x00 ∷ 0x00 ∷ 0x00 ∷ 0x00 ∷ 0x00 ∷ 0x16 ∷ [])
      (bytes_of "bytes=9\nat=0 kind=data len=9 da=0 sa=0 dsap=- ssap=- fc=0 pdu=0\nend=done at=9\n")
  pub above_the_limit : output_of (replicate 4097 0xE5) ≡ bytes_of "refused=22\n"

pub listing_samples : ListingSamples
unfolding sum_of checksum_of function_code_of request_type_of state_of status_of header_at saps_at read_of digits decimal_of place_of header_of content_of line_of end_of stream_from stream_text bytes_line listing_in past_lengths start_of strict_of
listing_samples =
    record {
      document01 = refl;
      empty = refl;
      unknown_in_the_middle = refl;
      cut_at_the_end = refl;
      saps = refl;
      order = refl;
      bit7 = refl;
      whole_bytes = refl;
      strict_fourth = refl;
      strict_length = refl;
      sloppy_listed = refl;
      above_the_limit = output_long Default (replicate 4097 0xE5) (rw (length-replicate {A = ℕ} 4097 0xE5) (omega arith));
    }

-- Every listing begins with `bytes=`, and the number that stands there is the input's length.
pub bytes_named : (input : List ℕ) → begins (bytes_of "bytes=") (listing_of input) ≡ true
unfolding begins listing_in bytes_line
bytes_named input = refl

pub bytes_told : (input : List ℕ) (limit : ℕ) → length input ≤ limit
    → number_at (listing_of input) 6 limit ≡ Some (record { value = length input; next = 6 + length (decimal_of (length input)) })
unfolding listing_in bytes_line digits_in is_digit
bytes_told input limit h =
    let rest = stream_text input (stream_of input) in
    number_written (listing_of input) 6 (length input) limit (bytes_of "\n" ++ rest)
    (append_assoc (decimal_of (length input)) (bytes_of "\n") rest)
    refl
    h
