-- Text by example: numbers written and read, and bytes laid down at a place, computed on the definitions.
use mathlib.Core.Path.{◌≡◌, refl}
use mathlib.Core.List.{[]}
use Rattle.std.specs.Prelude.{None, Some}
use Rattle.text.specs.Decimal.{digits, decimal_of, value_from, value_of, is_digit, digits_in, same, is_decimal, number_at}
use Rattle.text.specs.Placed.{laid, behind}
use Rattle.text.specs.Quoted.{bytes_of}

pub decimal_samples : (decimal_of 0 ≡ bytes_of "0")
    × (decimal_of 9 ≡ bytes_of "9")
    × (decimal_of 10 ≡ bytes_of "10")
    × (decimal_of 255 ≡ bytes_of "255")
    × (decimal_of 4096 ≡ bytes_of "4096")
    × (decimal_of 65535 ≡ bytes_of "65535")
    × (value_of (bytes_of "4096") ≡ 4096)
unfolding digits decimal_of value_from
decimal_samples = (refl, refl, refl, refl, refl, refl, refl)

-- the digits at a place, however many, are one number: 255 is not read out of 2556, nor 0 out of 07
pub number_samples : (number_at (bytes_of "at=255 ") 3 255 ≡ Some (record { value = 255; next = 6 }))
    × (number_at (bytes_of "0") 0 255 ≡ Some (record { value = 0; next = 1 }))
    × (number_at (bytes_of "256") 0 255 ≡ None)
    × (number_at (bytes_of "256") 0 4096 ≡ Some (record { value = 256; next = 3 }))
    × (number_at (bytes_of "2556") 0 255 ≡ None)
    × (number_at (bytes_of "07") 0 255 ≡ None)
    × (number_at (bytes_of "00") 0 255 ≡ None)
    × (number_at (bytes_of "x") 0 255 ≡ None)
    × (number_at (bytes_of "7") 9 255 ≡ None)
unfolding digits decimal_of value_from is_digit digits_in same is_decimal number_at
number_samples = (refl, refl, refl, refl, refl, refl, refl, refl, refl)

-- what reaches beyond the end is dropped, and the place stops at one past the end
pub placed_samples : (laid (bytes_of "......") 2 (bytes_of "abc") ≡ bytes_of "..abc.")
    × (behind (bytes_of "......") 2 (bytes_of "abc") ≡ 5)
    × (laid (bytes_of "......") 3 (bytes_of "abc") ≡ bytes_of "...abc")
    × (behind (bytes_of "......") 3 (bytes_of "abc") ≡ 6)
    × (laid (bytes_of "......") 4 (bytes_of "abc") ≡ bytes_of "....ab")
    × (behind (bytes_of "......") 4 (bytes_of "abc") ≡ 7)
    × (laid (bytes_of "......") 9 (bytes_of "abc") ≡ bytes_of "......")
    × (behind (bytes_of "......") 9 [] ≡ 7)
placed_samples = (refl, refl, refl, refl, refl, refl, refl, refl)
