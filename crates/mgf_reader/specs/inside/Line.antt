-- How a line that was read, and what it sets, answer to the line's form.
use Rattle.std.specs.Prelude.{◌≡◌, ℕ, List, Option, Some, None}
use Rattle.mgf_reader.specs.declared.line.Line.{Line}
use Rattle.mgf_reader.specs.declared.line.Line.TheVariants.{TooLong, Blank, Comment, Begin, End, Parameter, Peak}
use Rattle.mgf_reader.specs.declared.line.Line.TheVariants.{Remark, NoForm}
use Rattle.mgf_reader.specs.declared.setting.Setting.{Setting}
use Rattle.mgf_reader.specs.declared.setting.Setting.TheVariants.{Title, Precursor, Charges, Nothing}
use Rattle.mgf_reader.specs.declared.setting.SettingFault.{SettingFault}
use Rattle.mgf_reader.specs.declared.setting.SettingFault.TheVariants as Fault
use Rattle.mgf_reader.specs.declared.fault.MgfKind.{MgfKind}
use Rattle.mgf_reader.specs.declared.fault.MgfKind.TheVariants as Kind
use Rattle.mgf_reader.specs.Bytes.{fields_of}
use Rattle.mgf_reader.specs.LineForm.{LineForm, too_long, blank, comment, begin, end, parameter, peak, remark, no_form}
use Rattle.mgf_reader.specs.Parameter.{title, precursor, charge, value_in, precursor_units, charges_of}

-- the form of a line that was read
abbrev pub form_of_line : Line → LineForm
form_of_line TooLong = too_long
form_of_line Blank = blank
form_of_line Comment = comment
form_of_line Begin = begin
form_of_line End = end
form_of_line (Parameter key value) = parameter key.now value.now
form_of_line (Peak bytes) = peak (fields_of bytes.now)
form_of_line Remark = remark
form_of_line NoForm = no_form

-- a parameter line says these values for the three keys that count
pub record SaysAll (key value : List ℕ) (said_title said_precursor said_charge : Option (List ℕ)) : Type 0 where
  pub for_title : value_in title (parameter key value) ≡ said_title
  pub for_precursor : value_in precursor (parameter key value) ≡ said_precursor
  pub for_charge : value_in charge (parameter key value) ≡ said_charge

-- a parameter line of this key and value sets this
abbrev pub Says : List ℕ → List ℕ → Setting → Type 0
Says key value (Title bytes) = SaysAll key value (Some bytes.now) None None
Says key value (Precursor units) = SaysAll key value None (Some value) None × (precursor_units value ≡ Some units)
Says key value (Charges charges) = SaysAll key value None None (Some value) × (charges_of value ≡ Some charges.items)
Says key value Nothing = SaysAll key value None None None

-- the kind of a refused parameter line; want of memory is none
abbrev pub kind_of : SettingFault → Option MgfKind
kind_of Fault.BadPrecursor = Some Kind.BadPrecursor
kind_of Fault.BadCharge = Some Kind.BadCharge
kind_of Fault.OutOfMemory = None
